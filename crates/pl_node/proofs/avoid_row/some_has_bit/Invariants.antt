use Rattle.std.proofs.Common.{◌≡◌, false, take}
use Rattle.std.specs.List.{list_any}
use Rattle.pl_bits.specs.Bits.{has_bit}
use Rattle.pl_node.proofs.avoid_row.some_has_bit.Given as goal

abbrev pub invariant-loop-row : goal.invariant-loop-row
invariant-loop-row l = list_any (λ row. has_bit row.words l.fn.number) (take l.row-index l.rows) ≡ false
