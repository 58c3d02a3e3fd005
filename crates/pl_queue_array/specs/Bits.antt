-- What a set of indices is: a mark for each index; and two levels of words that hold the marks.
use Rattle.std.specs.Prelude.{◌≡◌, ℕ, ◌*◌, ◌<◌, ◌≤◌, ◌==◌, Bool, true, false, not, List, [], ◌∷◌, length, Option, None, Some, MatchOption, slice_index, slice_index_or, refl}
use Rattle.pl_bits.specs.Bits.{bits_of, has_bit}
use Rattle.pl_queues.specs.Queues.{next_index}

-- whether an index is marked; past the last none is
abbrev pub is_marked : List Bool → ℕ → Bool
is_marked marks at = slice_index_or marks at false

-- the first marked index from `from` on
abbrev pub next_marked : List Bool → ℕ → Option ℕ
next_marked marks from = next_index (is_marked marks) (length marks) from

-- an index is the least from `from` on that passes
pub record IsLeast (test : ℕ → Bool) (from at : ℕ) : Type 0 where
  pub reached : from ≤ at
  pub passes : test at ≡ true
  pub least : (k : ℕ) → from ≤ k → k < at → test k ≡ false

-- an answer is the least index from `from` on that passes, and none only where no index does
abbrev pub IsNextIndex : (ℕ → Bool) → ℕ → Option ℕ → Type 0
IsNextIndex test from answer = MatchOption answer ((k : ℕ) → from ≤ k → test k ≡ false) (IsLeast test from)

-- words that mark indices below n, and words above them that mark those words that are not 0
pub record IsTwoLevel (n : ℕ) (words filled : List ℕ) : Type 0 where
  -- each index has a bit
  pub room : n ≤ 64 * length words
  -- each word has a bit above
  pub room_above : length words ≤ 64 * length filled
  -- no other bit is set
  pub within : (at : ℕ) → has_bit words at ≡ true → at < n
  -- the bit above a word is set exactly where the word is not 0
  pub summary : (word : ℕ) → has_bit filled word ≡ not (slice_index words word == 0)

-- bits 1 and 66 of two words are the marks of the indices 1 and 66
pub two_words_mark_two_indices
    : (next_marked (bits_of (2 ∷ 4 ∷ []) 100) 0 ≡ Some 1)
    × (next_marked (bits_of (2 ∷ 4 ∷ []) 100) 2 ≡ Some 66)
    × (next_marked (bits_of (2 ∷ 4 ∷ []) 100) 67 ≡ None)
unfolding bits_of
two_words_mark_two_indices = (refl, refl, refl)
