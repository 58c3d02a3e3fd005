-- Numbers by their texts.
use Rattle.std.proofs.Common.{◌≡◌, ◌≢◌, ℕ, ◌<◌, ◌^◌, ◌&&◌, true, false, List, Option, Some, None, Result, Ok, Err, ltb, [], ◌∷◌, ◌+◌, length, drop, slice_index, Bor, MatchOption, refl, sym, ap, ◌∙◌, arith}
use Rattle.std.specs.Prelude.{decimal}
use Rattle.std.specs.Str.{bytes_eq}
use Rattle.std.specs.Str.Parse.{digits_value, ParsesUnsigned}
use Rattle.std.proofs.lemmas.Bool.{false_from_ne_true, and_parts, lt-ltb, ltb-true}
use Rattle.std.proofs.lemmas.Slice.Eq.{bytes_eq-Decides}
use Rattle.std.proofs.lemmas.Fmt.{parse-decimal, decimal_is_IsNumeral}
use Rattle.std.specs.Int.{from_be_bytes, w32}
use Rattle.std.specs.List.{before_first, after_first}
use Rattle.std.specs.Str.Pattern.{FindsCharPrefix}
use Rattle.std.proofs.lemmas.Str.Pattern.{strip_prefix_char}
use Rattle.pl_wiring.specs.Texts.{number_of_text, byte_of_text, ip_number, is_point}

-- the text of a number below 2 ^ 16 is read as that number
pub number_of-decimal : (n : ℕ) (text : List ℕ) → n < 2 ^ 16 → decimal n ≡ text → number_of_text text ≡ Some n
unfolding number_of_text
number_of-decimal n text small written =
    let wide : n < 2 ^ 64 = omega arith in
    let value : digits_value 10 text ≡ n = ap (digits_value 10) (sym written) ∙ (decimal_is_IsNumeral n wide).1 in
    let below : ltb n 65536 ≡ true = lt-ltb n 65536 small in
    let same : bytes_eq (decimal n) text ≡ true = (bytes_eq-Decides (decimal n) text).1 written in
    rw (value, below, same) refl

-- what no such number writes is not read
pub number_of-other : (text : List ℕ) → ((n : ℕ) → n < 2 ^ 16 → decimal n ≢ text) → number_of_text text ≡ None
unfolding number_of_text
number_of-other text other =
    let v = digits_value 10 text in
    let no : (ltb v 65536 && bytes_eq (decimal v) text) ≡ false =
    false_from_ne_true _ (λ yes.
    let parts = and_parts (ltb v 65536) (bytes_eq (decimal v) text) yes in
    other v (ltb-true v 65536 parts.0) ((bytes_eq-Decides (decimal v) text).0 parts.1)) in
    rw no refl

-- what `parse` does not take is no such number's text
pub number_of-unparsed : (text : List ℕ) → (let r : Result ℕ ℕ = Err 0 in ParsesUnsigned 16 10 text r) → number_of_text text ≡ None
number_of-unparsed text parsed = number_of-other text (λ n small written.
    let r : Result ℕ ℕ = Err 0 in
    let wide : n < 2 ^ 64 = omega arith in
    let read = parse-decimal {E = ℕ} 16 n text r small wide (sym written) parsed in
    cc)

-- a number that is read and then printed otherwise was not its text
pub number_of-reprinted : (text : List ℕ) (m : ℕ) → (let r : Result ℕ ℕ = Ok m in ParsesUnsigned 16 10 text r) → decimal m ≢ text → number_of_text text ≡ None
number_of-reprinted text m parsed differs = number_of-other text (λ n small written.
    let r : Result ℕ ℕ = Ok m in
    let wide : n < 2 ^ 64 = omega arith in
    let read : r ≡ Ok n = parse-decimal {E = ℕ} 16 n text r small wide (sym written) parsed in
    let same : m ≡ n = cc in
    differs (rw same written))

-- a text from which no prefix of this one character is stripped does not begin with it
pub other_first : (c : ℕ) (text : List ℕ) (r : Option (Bor (List ℕ))) → MatchOption r (FindsCharPrefix c text None) (λ x. (n : ℕ) × FindsCharPrefix c text (Some n) × (x.now ≡ drop n text) × (length x.now + n ≡ length text)) →
    r ≡ None → 0 < c → c < 128 → slice_index text 0 ≢ c
other_first c [] r cases none positive small first = absurd (omega arith)
other_first c (b ∷ rest) r cases none positive small first =
    let without = (rw none at (strip_prefix_char c (b ∷ rest) r cases small)) in
    without rest (ap (λ a. a ∷ rest) first)

-- four numbers read one after another
pub ip_number-read : (text : List ℕ) (b0 b1 b2 b3 : ℕ) →
    byte_of_text (before_first is_point text) ≡ Some b0 →
    byte_of_text (before_first is_point (after_first is_point text)) ≡ Some b1 →
    byte_of_text (before_first is_point (after_first is_point (after_first is_point text))) ≡ Some b2 →
    byte_of_text (after_first is_point (after_first is_point (after_first is_point text))) ≡ Some b3 →
    ip_number text ≡ Some (from_be_bytes w32 (b0 ∷ b1 ∷ b2 ∷ b3 ∷ []))
ip_number-read text b0 b1 b2 b3 e0 e1 e2 e3 = rw (e0, e1, e2, e3) refl
