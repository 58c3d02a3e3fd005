use Rattle.std.proofs.Common.{◌/◌, ◌%◌, ◌==◌, ◌&&◌, ◌||◌, ◌∙◌, ap, sym}
use Rattle.pl_lemmas.proofs.Exports.{and_true, or_false}
use Rattle.pl_node.specs.Hidden.{is_or_none}
use Rattle.pl_node.proofs.avoid_row.AvoidRow.hiding.Goals as goal

pub returns-in-Some-clause-bits : goal.returns-in-Some-clause-bits
returns-in-Some-clause-bits c n small =
    let pod = c.args.hidden.pod in
    let here = (pod == n / 12) && (c.in-Some.position == n % 12) in
    c.with_address.ensures.bits n small
    ∙ ap (λ b. here || b) (c.of-none.ensures.none n) ∙ sym (or_false here)
    ∙ ap (λ o. (pod == n / 12) && is_or_none o (n % 12)) (sym c.in-Some.is)

pub returns-in-None-clause-bits : goal.returns-in-None-clause-bits
returns-in-None-clause-bits c n small =
    let here = c.args.hidden.pod == n / 12 in
    c.with_pod.ensures.bits n small
    ∙ ap (λ b. here || b) (c.of-none.ensures.none n) ∙ sym (or_false here) ∙ sym (and_true here)
    ∙ ap (λ o. here && is_or_none o (n % 12)) (sym c.in-None.is)
