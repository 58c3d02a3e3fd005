use Rattle.std.proofs.Common.{◌≡◌, false, take}
use Rattle.std.specs.List.{list_any}
use Rattle.pl_node.specs.AvoidRows.{row_has}
use Rattle.pl_node.proofs.avoid_row.has_number.Given as goal

abbrev pub invariant-loop-row : goal.invariant-loop-row
invariant-loop-row l = list_any (row_has l.fn.neighbour l.fn.number) (take l.row-index l.rows) ≡ false
