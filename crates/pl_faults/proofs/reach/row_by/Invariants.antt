use Rattle.std.proofs.Common.{◌≡◌, ◌&&◌, map, take}
use Rattle.std.specs.List.{list_any}
use Rattle.pl_node.specs.ManagerViews.{has_level}
use Rattle.pl_faults.specs.Rows.{AreLevelRows, RowOfSwitch}
use Rattle.pl_faults.proofs.reach.row_by.Given as goal

abbrev pub invariant-loop-neighbour : goal.invariant-loop-neighbour
invariant-loop-neighbour l =
    (f : RowOfSwitch) → AreLevelRows l.reports l.level l.edges f l.by.entries → l.row
    ≡ map (λ e. list_any (λ x. has_level l.reports x l.level && f e x) (take l.neighbour-index l.neighbour-items)) l.edges
