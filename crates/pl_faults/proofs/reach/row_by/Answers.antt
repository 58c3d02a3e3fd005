use Rattle.std.proofs.Common.{◌∙◌, ◌&&◌, ap, map}
use Rattle.std.specs.List.{list_any}
use Rattle.std.proofs.lemmas.List.{take_all}
use Rattle.pl_frame.specs.declared.address.SwitchId.{SwitchId}
use Rattle.pl_node.specs.ManagerViews.{has_level}
use Rattle.pl_faults.proofs.Reaching.{row_more}
use Rattle.pl_faults.proofs.reach.row_by.Goals as goal

pub loop-neighbour-init : goal.loop-neighbour-init
loop-neighbour-init c f h = c.in_ok-row.ensures

pub loop-neighbour-preserved : goal.loop-neighbour-preserved
loop-neighbour-preserved c f h =
    let d : SwitchId = record { 0 = 0 } in
    row_more c.args.reports.now c.args.level c.args.edges.now f c.args.by.now.entries h c.alive_neighbours-neighbour-items.result.now
    c.loop-neighbour.neighbour-index d c.loop-neighbour-test.true c.loop-neighbour.row c.add_row.new.row
    (c.loop-neighbour.invariant f h) c.add_row.ensures

pub returns : goal.returns
returns c f h =
    let told = c.args.reports.now in
    c.loop-neighbour.invariant f h
    ∙ ap (λ xs. map (λ e. list_any (λ x. has_level told x c.args.level && f e x) xs) c.args.edges.now)
    (take_all c.loop-neighbour.neighbour-index c.alive_neighbours-neighbour-items.result.now c.loop-neighbour-test.false ∙ c.alive_neighbours-neighbour-items.ensures.value)
