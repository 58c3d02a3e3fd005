-- The bits of words of 64 bits.
use Rattle.std.specs.Prelude.{◌≡◌, ℕ, ◌*◌, ◌/◌, ◌%◌, ◌^◌, ◌≤◌, ◌==◌, Bool, List, [], ◌∷◌, length, map, slice_index, bit_and, bit_or, refl, true, false}
use Rattle.std.specs.Int.{bit_at, bit_not, w64}
use Rattle.std.specs.List.{range_with_len}

-- whether a bit of a word is set
abbrev pub is_set : ℕ → ℕ → Bool
is_set word bit = bit_at word bit == 1

-- whether a bit of a row of words, 64 bits each, is set
abbrev pub has_bit : List ℕ → ℕ → Bool
has_bit words at = is_set (slice_index words (at / 64)) (at % 64)

-- a word with one bit set, and with one bit cleared
abbrev pub with_bit : ℕ → ℕ → ℕ
with_bit word bit = bit_or word (1 * 2 ^ bit % 2 ^ 64)

abbrev pub without_bit : ℕ → ℕ → ℕ
without_bit word bit = bit_and word (bit_not w64 (1 * 2 ^ bit % 2 ^ 64))

-- the first n bits
unfoldable pub bits_of : List ℕ → ℕ → List Bool
bits_of words n = map (has_bit words) (range_with_len 0 n)

-- there is a word for each of n bits
abbrev pub HasWords : ℕ → List ℕ → Type 0
HasWords n words = n ≤ 64 * length words

-- bits 1 and 2 of a word
pub word_of_two_bits : bits_of (6 ∷ []) 4 ≡ false ∷ true ∷ true ∷ false ∷ []
unfolding bits_of
word_of_two_bits = refl
