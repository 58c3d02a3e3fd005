use Rattle.std.proofs.Common.{take}
use Rattle.std.specs.Prelude.{◌&&◌, not}
use Rattle.pl_node.specs.AvoidRows.{AreListed}
use Rattle.pl_node.specs.Hidden.{hidden_at}
use Rattle.pl_node.proofs.AvoidRows.{any_row}
use Rattle.pl_node.proofs.avoid_within.are_rows_within.Given as goal

abbrev pub invariant-loop-row : goal.invariant-loop-row
invariant-loop-row l = AreListed (λ x. any_row (take l.row-index l.rows) x && not (hidden_at l.fn.hidden x.1 x.2)) l.fn.other
