-- The Internet checksum (RFC 1071).
use Rattle.std.specs.Prelude.{◌≡◌, ℕ, ◌+◌, ◌-◌, ◌*◌, ◌/◌, ◌%◌, List, [], ◌∷◌, fold, refl}

-- bytes as numbers of 16 bits, the high byte first; a last byte without its pair is a high byte
abbrev pub words : List ℕ → List ℕ
words [] = []
words (high ∷ []) = high * 256 ∷ []
words (high ∷ (low ∷ rest)) = (high * 256 + low) ∷ words rest

-- ones' complement addition of 16 bits: the carry out of the highest bit comes in again at the lowest
unfoldable pub ones_plus : ℕ → ℕ → ℕ
ones_plus a b = (a + b) % 65536 + (a + b) / 65536

-- the ones' complement sum of the words
abbrev pub ones_sum : List ℕ → ℕ
ones_sum bytes = fold ones_plus 0 (words bytes)

-- the checksum is the complement of the sum
abbrev pub checksum_of : List ℕ → ℕ
checksum_of bytes = 65535 - ones_sum bytes

-- the example of RFC 1071, section 3
the_sum_of_the_example : ones_sum (0 ∷ 1 ∷ 0xf2 ∷ 3 ∷ 0xf4 ∷ 0xf5 ∷ 0xf6 ∷ 0xf7 ∷ []) ≡ 0xddf2
unfolding ones_plus
the_sum_of_the_example = refl
