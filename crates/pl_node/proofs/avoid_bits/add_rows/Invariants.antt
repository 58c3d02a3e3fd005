use Rattle.std.proofs.Common.{take}
use Rattle.std.specs.List.{list_any}
use Rattle.pl_node.specs.AvoidRows.{Gains, entries_of, is_listed}
use Rattle.pl_node.proofs.avoid_bits.add_rows.Given as goal

abbrev pub invariant-loop-row : goal.invariant-loop-row
invariant-loop-row l = Gains l.initial.list l.list l.fn.other (λ x. list_any (λ row. is_listed x (entries_of row)) (take l.row-index l.rows))
