use Rattle.std.proofs.Common.{◌≡◌, ℕ, ◌<◌, ◌≤◌, length, slice_index, bit_or}
use Rattle.pl_bits.proofs.words.add_words.Given as goal

abbrev pub invariant-loop-i : goal.invariant-loop-i
invariant-loop-i l =
    (length l.words.items ≡ length l.initial.words.items)
    × ((j : ℕ) → j < l.i → slice_index l.words.items j ≡ bit_or (slice_index l.initial.words.items j) (slice_index l.more j))
    × ((j : ℕ) → l.i ≤ j → slice_index l.words.items j ≡ slice_index l.initial.words.items j)
