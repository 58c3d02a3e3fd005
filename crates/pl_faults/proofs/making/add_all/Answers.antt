use Rattle.std.proofs.Common.{◌∙◌, sym}
use Rattle.std.specs.Prelude.{fold}
use Rattle.pl_faults.specs.Missed.{with_unnumbered}
use Rattle.pl_faults.proofs.ByRows.{all_put_in, none_unnumbered}
use Rattle.pl_faults.proofs.making.add_all.Goals as goal

pub returns-then-has_all : goal.returns-then-has_all
returns-then-has_all c =
    let u = c.args.neighbour in let es = c.args.missed.now in
    c.in_ok-insert_row.ensures.ok ∙ sym (none_unnumbered u es _ (sym c.has_all.ensures ∙ c.if-has_all.true))
    ∙ all_put_in u es c.row.result c.args.list.now c.row.ensures.neighbour c.row.ensures.bits c.in_ok-insert_row.ensures.rising

pub returns : goal.returns
returns c =
    let u = c.args.neighbour in let es = c.args.missed.now in
    c.in_ok-add_unnumbered.ensures
    ∙ (λ i. fold (with_unnumbered u) (c.in_ok-insert_row.ensures.ok i) (c.as_slice.ensures i))
    ∙ all_put_in u es c.row.result c.args.list.now c.row.ensures.neighbour c.row.ensures.bits c.in_ok-insert_row.ensures.rising
