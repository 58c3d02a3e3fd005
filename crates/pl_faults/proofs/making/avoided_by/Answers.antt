use Rattle.std.proofs.Common.{◌∙◌, ap, get_or, [], sym}
use Rattle.std.specs.Prelude.{fold}
use Rattle.std.proofs.lemmas.List.{take_all}
use Rattle.std.proofs.lemmas.List.Sums.{fold_more}
use Rattle.pl_frame.specs.declared.address.SwitchId.{SwitchId}
use Rattle.pl_faults.specs.Making.{with_neighbour}
use Rattle.pl_faults.proofs.Made.{list_made}
use Rattle.pl_faults.proofs.making.avoided_by.Goals as goal

pub loop-neighbour-preserved : goal.loop-neighbour-preserved
loop-neighbour-preserved c led =
    let told = c.args.reports.now in let s = c.args.switch in let us = c.neighbours-neighbour-items.result.now in
    let i = c.loop-neighbour.neighbour-index in let d : SwitchId = record { 0 = 0 } in
    c.in_ok-add_neighbour.ensures c.place_of-place.ensures led
    ∙ ap (λ list. with_neighbour told s list (get_or us i d)) (c.loop-neighbour.invariant led)
    ∙ sym (fold_more (with_neighbour told s) [] us i d c.loop-neighbour-test.true)

pub returns : goal.returns
returns c led =
    c.loop-neighbour.invariant led
    ∙ ap (λ us. fold (with_neighbour c.args.reports.now c.args.switch) [] us)
    (take_all c.loop-neighbour.neighbour-index c.neighbours-neighbour-items.result.now c.loop-neighbour-test.false ∙ c.neighbours-neighbour-items.ensures)
    ∙ list_made c.args.reports.now c.args.switch
