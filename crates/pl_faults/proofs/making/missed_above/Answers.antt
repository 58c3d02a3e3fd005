use Rattle.std.proofs.Common.{◌∙◌, ap, get_or, [], sym}
use Rattle.std.specs.Prelude.{fold}
use Rattle.std.proofs.lemmas.List.{take_all}
use Rattle.std.proofs.lemmas.List.Sums.{fold_more}
use Rattle.pl_frame.specs.declared.address.SwitchId.{SwitchId}
use Rattle.pl_faults.specs.Missed.{with_above}
use Rattle.pl_faults.proofs.making.missed_above.Goals as goal

pub loop-neighbour-preserved : goal.loop-neighbour-preserved
loop-neighbour-preserved c =
    let step = with_above c.args.reports.now c.args.misses.now.entries c.args.level in let us = c.neighbours-neighbour-items.result.now in
    let i = c.loop-neighbour.neighbour-index in let d : SwitchId = record { 0 = 0 } in
    c.in_ok-add_above.ensures ∙ ap (λ list. step list (get_or us i d)) c.loop-neighbour.invariant ∙ sym (fold_more step [] us i d c.loop-neighbour-test.true)

pub returns : goal.returns
returns c =
    c.in_ok-list.ensures ∙ c.loop-neighbour.invariant
    ∙ ap (fold (with_above c.args.reports.now c.args.misses.now.entries c.args.level) [])
    (take_all c.loop-neighbour.neighbour-index c.neighbours-neighbour-items.result.now c.loop-neighbour-test.false ∙ c.neighbours-neighbour-items.ensures)
