use Rattle.std.proofs.Common.{◌≡◌, ℕ, ◌/◌, ◌<◌, ◌≤◌, false}
use Rattle.pl_bits.specs.Bits.{has_bit}
use Rattle.pl_queue_array.proofs.words.next_of_words.Given as goal

abbrev pub invariant-loop-word : goal.invariant-loop-word
invariant-loop-word l = (k : ℕ) → l.from ≤ k → k / 64 < l.word → has_bit l.words k ≡ false
