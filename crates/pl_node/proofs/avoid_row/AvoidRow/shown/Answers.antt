use Rattle.std.proofs.Common.{◌/◌, ◌%◌, ◌&&◌, ◌∙◌, ap, not, sym}
use Rattle.pl_lemmas.proofs.Exports.{and_true}
use Rattle.pl_bits.specs.Bits.{has_bit}
use Rattle.pl_node.specs.Hidden.{hidden_at}
use Rattle.pl_node.proofs.avoid_row.AvoidRow.shown.Goals as goal

pub returns-in-Some-clause-bits : goal.returns-in-Some-clause-bits
returns-in-Some-clause-bits c n small =
    let words = c.args.self.now.words in
    c.without.ensures.bits n small
    ∙ ap (λ b. has_bit words n && not b) (c.hiding.ensures.bits n small)
    ∙ ap (λ h. has_bit words n && not (hidden_at h (n / 12) (n % 12))) (sym c.in-Some.is)

pub returns-in-None-clause-bits : goal.returns-in-None-clause-bits
returns-in-None-clause-bits c n small =
    let words = c.args.self.now.words in
    sym (ap (λ h. has_bit words n && not (hidden_at h (n / 12) (n % 12))) c.in-None.is ∙ and_true (has_bit words n))
