-- Hexadecimal text, one byte more at a time.
use Rattle.std.proofs.Common.{◌≡◌, ℕ, false, ◌+◌, ◌/◌, ◌%◌, ◌<◌, List, [], ◌∷◌, ◌++◌, length, take, get_or, slice_index, refl, sym, ap, ◌∙◌, arith}
use Rattle.std.specs.Fmt.{digit_glyph}
use Rattle.std.proofs.lemmas.List.{take_more}
use Rattle.std.proofs.lemmas.List.FromFn.{get_or-map-range_with_len}
use Rattle.hex.specs.Hex.{encode_lower, encode_with, lower_digits}
use Rattle.pl_frame.specs.Address.{hex_pair}

pub encode_append : (t xs ys : List ℕ) → encode_with t (xs ++ ys) ≡ encode_with t xs ++ encode_with t ys
unfolding encode_with
encode_append t [] ys = refl
encode_append t (x ∷ xs) ys =
    ap (λ zs. slice_index t (x / 16) ∷ slice_index t (x % 16) ∷ zs) (encode_append t xs ys)

last_byte : (b : ℕ) → encode_lower (b ∷ []) ≡ slice_index lower_digits (b / 16) ∷ slice_index lower_digits (b % 16) ∷ []
unfolding encode_with
last_byte b = refl

-- a digit is the one that a number is printed with
glyph_at : (n : ℕ) → n < 16 → slice_index lower_digits n ≡ digit_glyph false n
glyph_at n less = get_or-map-range_with_len (digit_glyph false) 0 16 n n 0 less (omega arith)

pub pair_at : (b : ℕ) → b < 256 → hex_pair b ≡ encode_lower (b ∷ [])
pair_at b small =
    let high : b / 16 < 16 = omega arith in
    let low : b % 16 < 16 = omega arith in
    sym (last_byte b ∙ rw (glyph_at (b / 16) high, glyph_at (b % 16) low) refl)

-- the text of the bytes so far, and the two digits of the next byte
pub one_byte_more : (xs : List ℕ) (i : ℕ) → i < length xs
    → encode_lower (take i xs) ++ encode_lower (get_or xs i 0 ∷ []) ≡ encode_lower (take (i + 1) xs)
one_byte_more xs i within =
    sym (ap encode_lower (take_more xs i 0 within) ∙ encode_append lower_digits (take i xs) (get_or xs i 0 ∷ []))
