use Rattle.std.proofs.Common.{◌∙◌, [], ap}
use Rattle.std.specs.Prelude.{fold}
use Rattle.std.proofs.lemmas.List.{take_all}
use Rattle.pl_node.specs.ManagerViews.{edge_at, place_of}
use Rattle.pl_faults.specs.Making.{with_placed}
use Rattle.pl_faults.proofs.Made.{edges_placed}
use Rattle.pl_faults.proofs.edges.placed_edges.Goals as goal

pub returns : goal.returns
returns c =
    let told = c.args.reports.now in
    c.loop-switch.invariant
    ∙ ap (λ ss. fold (λ es s. with_placed es (edge_at s (place_of told s))) [] ss)
    (take_all c.loop-switch.switch-index c.placed_edges-switch-items.result.now c.loop-switch-test.false ∙ c.placed_edges-switch-items.ensures.value)
    ∙ edges_placed told
