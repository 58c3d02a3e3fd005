-- Numbers by their digits.
use Rattle.std.proofs.Common.{◌≡◌, ℕ, ◌<◌, ◌≤◌, ◌^◌, ◌&&◌, true, false, cond, List, [], ◌∷◌, length, Result, Ok, Err, refl, sym, ap, ◌∙◌, arith}
use Rattle.std.specs.Char.{is_ascii_digit}
use Rattle.std.specs.List.{list_all}
use Rattle.std.specs.Str.{all_ascii_digits}
use Rattle.std.specs.Str.Parse.{digits_value, ParsesUnsigned}
use Rattle.std.proofs.lemmas.Bool.{and_from, and_parts, false_from_ne_true, le-leb, leb-true}
use Rattle.std.proofs.lemmas.Str.Parse.{IsNumeralModel, numerals_by_value, parse_digits, tells_all_ascii_digits}
use Rattle.pl_script.specs.Numbers.{is_number, is_within, number_of}
use Rattle.pl_script.specs.declared.error.ScriptReason.TheVariants as reason

same_digits : (text : List ℕ) → list_all is_ascii_digit text ≡ all_ascii_digits text
same_digits [] = refl
same_digits (byte ∷ bytes) = ap (λ t. is_ascii_digit byte && t) (same_digits bytes)

own : IsNumeralModel (λ text. all_ascii_digits text ≡ true) (digits_value 10)
own = numerals_by_value (λ text. all_ascii_digits text ≡ true) tells_all_ascii_digits

digits : (text : List ℕ) → is_number text ≡ true → all_ascii_digits text ≡ true
digits text form = sym (same_digits text) ∙ (and_parts _ (list_all is_ascii_digit text) form).1

some_digits : (text : List ℕ) → is_number text ≡ true → 0 < length text
some_digits text form =
    let parts = and_parts _ (list_all is_ascii_digit text) form in
    let least : 1 ≤ length text = leb-true 1 (length text) (and_parts _ _ parts.0).0 in
    omega arith

-- what `parse` gives of digits is their value
pub parsed : (text : List ℕ) (n : ℕ) → is_number text ≡ true → (let r : Result ℕ ℕ = Ok n in ParsesUnsigned 64 10 text r) → n ≡ digits_value 10 text
parsed text n form read = let r : Result ℕ ℕ = Ok n in (parse_digits own {E = ℕ} 64 text r read (digits text form)).1

-- what it does not take is beyond 64 bits
pub unparsed : (text : List ℕ) → is_number text ≡ true → (let r : Result ℕ ℕ = Err 0 in ParsesUnsigned 64 10 text r) → digits_value 10 text < 2 ^ 64 → ⊥
unparsed text form read small =
    let r : Result ℕ ℕ = Err 0 in
    parse_digits own {E = ℕ} 64 text r read (digits text form) (some_digits text form, small)

pub number_of-read : (least most n : ℕ) (text : List ℕ) → is_number text ≡ true → n ≡ digits_value 10 text → least ≤ n → n ≤ most → Ok n ≡ number_of least most text
unfolding number_of
number_of-read least most n text form value low high =
    let test : (is_number text && is_within least most (digits_value 10 text)) ≡ true =
    and_from _ _ form (and_from _ _ (le-leb least (digits_value 10 text) (omega arith)) (le-leb (digits_value 10 text) most (omega arith))) in
    ap (λ n. Ok n) value ∙ sym (ap (λ t. cond t (Ok (digits_value 10 text)) (Err reason.Number)) test)

pub number_of-other : (least most : ℕ) (text : List ℕ) → (is_number text ≡ true → least ≤ digits_value 10 text → digits_value 10 text ≤ most → ⊥) → Err reason.Number ≡ number_of least most text
unfolding number_of
number_of-other least most text absent =
    let test : (is_number text && is_within least most (digits_value 10 text)) ≡ false = false_from_ne_true _ (λ yes.
    let parts = and_parts (is_number text) _ yes in
    let within = and_parts _ _ parts.1 in
    absent parts.0 (leb-true least (digits_value 10 text) within.0) (leb-true (digits_value 10 text) most within.1)) in
    sym (ap (λ t. cond t (Ok (digits_value 10 text)) (Err reason.Number)) test)
