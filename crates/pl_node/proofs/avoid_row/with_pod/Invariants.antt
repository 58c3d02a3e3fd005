use Rattle.std.proofs.Common.{◌≡◌, ℕ, ◌/◌, ◌%◌, ◌<◌, ◌==◌, ◌&&◌, ◌||◌, nat_lt}
use Rattle.pl_bits.specs.Bits.{has_bit}
use Rattle.pl_node.proofs.avoid_row.with_pod.Given as goal

abbrev pub invariant-loop-position : goal.invariant-loop-position
invariant-loop-position l =
    (l.row.neighbour ≡ l.fn.row.neighbour)
    × ((n : ℕ) → n < 288 → has_bit l.row.words n ≡ (((l.fn.pod == n / 12) && nat_lt (n % 12) l.position) || has_bit l.fn.row.words n))
