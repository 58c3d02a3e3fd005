use Rattle.std.proofs.Common.{◌≡◌, [], map, take}
use Rattle.std.specs.Prelude.{fold}
use Rattle.pl_node.specs.ManagerViews.{edge_at, place_of}
use Rattle.pl_faults.specs.Making.{placed_as, with_placed}
use Rattle.pl_faults.proofs.edges.placed_edges.Given as goal

abbrev pub invariant-loop-switch : goal.invariant-loop-switch
invariant-loop-switch l =
    map placed_as l.edges.items ≡ fold (λ es s. with_placed es (edge_at s (place_of l.reports s))) [] (take l.switch-index l.switch-items)
