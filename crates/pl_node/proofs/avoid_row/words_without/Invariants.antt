use Rattle.std.proofs.Common.{◌≡◌, ℕ, ◌<◌, ◌&&◌, length, not, slice_index}
use Rattle.pl_bits.specs.Bits.{is_set}
use Rattle.pl_node.proofs.avoid_row.words_without.Given as goal

abbrev pub invariant-loop-i : goal.invariant-loop-i
invariant-loop-i l =
    (length l.left ≡ 5)
    × ((j bit : ℕ) → j < l.i → bit < 64 → is_set (slice_index l.left j) bit
    ≡ (is_set (slice_index l.words j) bit && not (is_set (slice_index l.others j) bit)))
