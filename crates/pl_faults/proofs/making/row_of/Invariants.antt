use Rattle.std.proofs.Common.{◌≡◌, ℕ, take}
use Rattle.std.specs.List.{list_any}
use Rattle.pl_bits.specs.Bits.{has_bit}
use Rattle.pl_faults.specs.Missed.{is_numbered}
use Rattle.pl_faults.proofs.making.row_of.Given as goal

abbrev pub invariant-loop-edge : goal.invariant-loop-edge
invariant-loop-edge l =
    (l.row.neighbour ≡ l.fn.neighbour)
    × ((n : ℕ) → has_bit l.row.words n ≡ list_any (is_numbered l.place l.switch n) (take l.edge-index l.missed))
