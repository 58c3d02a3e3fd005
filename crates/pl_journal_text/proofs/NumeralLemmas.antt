-- Numbers by their one spelling.
use Rattle.std.proofs.Common.{◌≡◌, ◌≢◌, ℕ, zero, suc, ◌<◌, ◌≤◌, ◌^◌, ◌&&◌, ◌||◌, ◌==◌, nat_lt, true, false, List, [], ◌∷◌, length, get_or, codes, decimal, Option, Some, None, Result, Ok, Err, refl, sym, ap, ◌∙◌, inl, inr, arith}
use Rattle.pl_journal.specs.Text.{part_text}
use Rattle.pl_journal_text.specs.Reading.{Reads}
use Rattle.pl_journal.specs.Ranges.{IsLong, IsPart}
use Rattle.std.specs.Char.{is_ascii_digit}
use Rattle.std.specs.List.{list_all}
use Rattle.std.specs.Fmt.{digits}
use Rattle.std.specs.Str.{all_ascii_digits, bytes_eq}
use Rattle.std.proofs.lemmas.Slice.Eq.{bytes_eq-Decides}
use Rattle.std.specs.Str.Parse.{digits_value, ParsesUnsigned}
use Rattle.std.proofs.lemmas.Bool.{and_from, and_parts, eqb-true, false≢true, le-leb, leb-true, lt-ltb, ltb-true, or_cases, or_left}
use Rattle.std.proofs.lemmas.Str.Parse.{IsNumeralModel, numerals_by_value, parse_digits, tells_all_ascii_digits}
use Rattle.std.proofs.lemmas.Fmt.{decimal_injective, decimal-digits_value, decimal_nonempty, digits_decimal, first_decimal, parse-decimal}
use Rattle.pl_journal_text.specs.Numerals.{is_numeral}

same_digits : (text : List ℕ) → list_all is_ascii_digit text ≡ all_ascii_digits text
same_digits [] = refl
same_digits (byte ∷ bytes) = ap (λ t. is_ascii_digit byte && t) (same_digits bytes)

own : IsNumeralModel (λ text. all_ascii_digits text ≡ true) (digits_value 10)
own = numerals_by_value (λ text. all_ascii_digits text ≡ true) tells_all_ascii_digits

only_digits : (text : List ℕ) → is_numeral text ≡ true → all_ascii_digits text ≡ true
unfolding is_numeral
only_digits text form = sym (same_digits text) ∙ (and_parts _ (list_all is_ascii_digit text) form).1

some_digits : (text : List ℕ) → is_numeral text ≡ true → 0 < length text
unfolding is_numeral
some_digits text form =
    let parts = and_parts _ (list_all is_ascii_digit text) form in
    let least : 1 ≤ length text = leb-true 1 (length text) (and_parts _ _ parts.0).0 in
    omega arith

no_zero_in_front : (text : List ℕ) → is_numeral text ≡ true → get_or text 0 0 ≡ 48 → length text ≡ 1
unfolding is_numeral
no_zero_in_front text form first =
    let parts = and_parts _ (list_all is_ascii_digit text) form in
    let either = (and_parts _ (nat_lt 48 (get_or text 0 0) || (length text == 1)) parts.0).1 in
    elim (or_cases (nat_lt 48 (get_or text 0 0)) (length text == 1) either) [
      | inl above ↦ let e : 48 < get_or text 0 0 = ltb-true 48 (get_or text 0 0) above in absurd (omega arith)
      | inr one ↦ eqb-true (length text) 1 one
    ]

spelt : (text : List ℕ) (n : ℕ) → is_numeral text ≡ true → n < 2 ^ 64 → n ≡ digits_value 10 text → text ≡ decimal n
spelt text n form small value =
    let below : digits_value 10 text < 2 ^ 64 = omega arith in
    sym (decimal-digits_value own text (only_digits text form) (some_digits text form) (no_zero_in_front text form) below) ∙ ap decimal (sym value)

-- what is read is spelt so
pub parsed : (text : List ℕ) (n : ℕ) → is_numeral text ≡ true → n < 2 ^ 64 → (let r : Result ℕ ℕ = Ok n in ParsesUnsigned 64 10 text r) → text ≡ decimal n
parsed text n form small read =
    let r : Result ℕ ℕ = Ok n in
    spelt text n form small (parse_digits own {E = ℕ} 64 text r read (only_digits text form)).1

-- each number is a numeral
zero_alone : (nat_lt 48 (get_or (decimal 0) 0 0) || (length (decimal 0) == 1)) ≡ true
unfolding digits
zero_alone = refl

one_or_more : (n : ℕ) → n < 2 ^ 64 → (nat_lt 48 (get_or (decimal n) 0 0) || (length (decimal n) == 1)) ≡ true
one_or_more zero small = zero_alone
one_or_more (suc n) small = or_left _ (length (decimal (suc n)) == 1) (lt-ltb 48 (get_or (decimal (suc n)) 0 0) (first_decimal (suc n) (omega arith) small))

pub is_spelt : (n : ℕ) → n < 2 ^ 64 → is_numeral (decimal n) ≡ true
unfolding is_numeral
is_spelt n small =
    let some = decimal_nonempty n small in
    and_from _ _ (and_from _ _ (le-leb 1 (length (decimal n)) (omega arith)) (one_or_more n small)) (same_digits (decimal n) ∙ digits_decimal own n small)

pub no_other : (text : List ℕ) → is_numeral text ≡ false → (n : ℕ) → n < 2 ^ 64 → text ≢ decimal n
no_other text form n small same = false≢true (sym form ∙ ap is_numeral same ∙ is_spelt n small)

-- what `parse` refuses is beyond 64 bits
pub unparsed : (text : List ℕ) → (let r : Result ℕ ℕ = Err 0 in ParsesUnsigned 64 10 text r) → (n : ℕ) → n < 2 ^ 64 → text ≢ decimal n
unparsed text read n small same =
    let r : Result ℕ ℕ = Err 0 in
    let e : r ≡ Ok n = parse-decimal {E = ℕ} 64 n text r small small same read in absurd (cc)

-- numbers below a limit, and parts of places
pub too_large : (word : List ℕ) (limit n : ℕ) (read : Option ℕ) → Reads decimal IsLong word read → read ≡ Some n → limit < 2 ^ 64 → limit ≤ n →
    (m : ℕ) → m < limit → word ≢ decimal m
too_large word limit n None reads is few large m below same = absurd (cc)
too_large word limit n (Some k) reads is few large m below same =
    let same_number : k ≡ n = (cc) in
    let small = reads.0 in
    let e : k ≡ m = decimal_injective k m small (omega arith) (sym (reads.1) ∙ same) in
    absurd (omega arith)

pub no_number : (word : List ℕ) (limit : ℕ) (read : Option ℕ) → limit < 2 ^ 64 → Reads decimal IsLong word read → read ≡ None → (m : ℕ) → m < limit → word ≢ decimal m
no_number word limit None few reads is m less = reads m (omega arith)
no_number word limit (Some n) few reads is m less = absurd (cc)

pub no_part : (word : List ℕ) (limit : ℕ) (read : Option ℕ) → false ≡ bytes_eq word (codes "-") → Reads decimal (λ n. n < limit) word read → read ≡ None →
    (p : Option ℕ) → IsPart limit p → word ≢ part_text p
no_part word limit (Some n) other reads is p fits same = absurd (cc)
no_part word limit None other reads is None fits same = false≢true (other ∙ (bytes_eq-Decides word (codes "-")).1 same)
no_part word limit None other reads is (Some n) fits same = reads n fits same
