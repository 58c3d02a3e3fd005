-- Bytes by their one spelling in hexadecimal.
use Rattle.std.proofs.Common.{◌≡◌, ◌≢◌, ℕ, zero, suc, ◌+◌, ◌*◌, ◌/◌, ◌%◌, ◌<◌, ◌≤◌, ◌&&◌, ◌||◌, ◌==◌, not, if◌then◌else◌, nat_le, nat_lt, Bool, true, false, List, [], ◌∷◌, length, slice_index, Option, Some, None, unwrap_or, Result, Ok, Err, refl, sym, ap, ap₂, ◌∙◌, inl, inr, arith}
use Rattle.std.specs.List.{list_all}
use Rattle.std.proofs.lemmas.Bool.{and_from, and_parts, cases_Bool, cases_lt, eqb-true, false≢true, leb-true, ltb-true, or_cases}
use Rattle.hex.specs.Hex.{IsBytes, decode_of, decode_pairs, digit_or_error, encode_lower, encode_with, hex_digit_value, lower_digits, pair_value, value_at, ◌>>=◌}
use Rattle.hex.specs.declared.error.FromHexError.{FromHexError}
use Rattle.hex.specs.declared.error.FromHexError.TheVariants.{OddLength}
use Rattle.hex.proofs.HexLemmas.{decode_of-encode_lower}
use Rattle.pl_journal_text.specs.Hexadecimals.{is_lower_digit}

-- the test of one digit, which computes
abbrev digit_of : ℕ → ℕ
digit_of c = unwrap_or (hex_digit_value c) 99

abbrev is_spelt_back : ℕ → Bool
is_spelt_back c = not (is_lower_digit c) || (nat_lt (digit_of c) 16 && (slice_index lower_digits (digit_of c) == c))

abbrev are_spelt_back : ℕ → Bool
are_spelt_back zero = true
are_spelt_back (suc n) = is_spelt_back n && are_spelt_back n

spelt_back_at : (n c : ℕ) → are_spelt_back n ≡ true → c < n → is_spelt_back c ≡ true
spelt_back_at zero c h less = absurd (omega arith)
spelt_back_at (suc n) c h less =
    let parts = and_parts (is_spelt_back n) (are_spelt_back n) h in
    elim (cases_lt c n) [
      | inl below ↦ spelt_back_at n c parts.1 below
      | inr top ↦ let e : c ≡ n = omega arith in rw e parts.0
    ]

all_digits : are_spelt_back 103 ≡ true
all_digits = refl

below_g : (c : ℕ) → is_lower_digit c ≡ true → c < 103
below_g c lower = elim (or_cases (nat_le 48 c && nat_le c 57) (nat_le 97 c && nat_le c 102) lower) [
  | inl digit ↦ let e : c ≤ 57 = leb-true c 57 (and_parts (nat_le 48 c) (nat_le c 57) digit).1 in omega arith
  | inr letter ↦ let e : c ≤ 102 = leb-true c 102 (and_parts (nat_le 97 c) (nat_le c 102) letter).1 in omega arith
]

spelt_digit : (c : ℕ) → is_lower_digit c ≡ true → (digit_of c < 16) × (slice_index lower_digits (digit_of c) ≡ c)
spelt_digit c lower =
    let test = spelt_back_at 103 c all_digits (below_g c lower) in
    let both : (nat_lt (digit_of c) 16 && (slice_index lower_digits (digit_of c) == c)) ≡ true =
    sym (ap (λ t. not t || (nat_lt (digit_of c) 16 && (slice_index lower_digits (digit_of c) == c))) lower) ∙ test in
    let parts = and_parts (nat_lt (digit_of c) 16) (slice_index lower_digits (digit_of c) == c) both in
    (ltb-true (digit_of c) 16 parts.0, eqb-true (slice_index lower_digits (digit_of c)) c parts.1)

-- a digit that has a value
digit_value : (c i : ℕ) (o : Option ℕ) (v : ℕ) → digit_or_error c i o ≡ Ok v → o ≡ Some v
digit_value c i (Some w) v is = let same : w ≡ v = (cc) in ap Some same
digit_value c i None v is = absurd (cc)

-- both digits of a byte
pair_digits : (high low i b : ℕ) → pair_value high low i ≡ Ok b → b ≡ digit_of high * 16 + digit_of low
pair_digits high low i b is = split (value_at high i) (value_at low (i + 1)) refl refl is
  where
    split : (r s : Result ℕ FromHexError) → value_at high i ≡ r → value_at low (i + 1) ≡ s → (r >>= λ h. s >>= λ l. Ok (h * 16 + l)) ≡ Ok b →
        b ≡ digit_of high * 16 + digit_of low
    split (Ok h) (Ok l) hi lo whole =
        let a : digit_of high ≡ h = ap (λ o. unwrap_or o 99) (digit_value high i (hex_digit_value high) h hi) in
        let z : digit_of low ≡ l = ap (λ o. unwrap_or o 99) (digit_value low (i + 1) (hex_digit_value low) l lo) in
        let e : h * 16 + l ≡ b = (cc) in
        omega (arith, a, z, e)
    split (Ok h) (Err e) hi lo whole = absurd (cc)
    split (Err e) s hi lo whole = absurd (cc)

spelt_pairs : (i : ℕ) (text bytes : List ℕ) → list_all is_lower_digit text ≡ true → decode_pairs i text ≡ Ok bytes → text ≡ encode_lower bytes
unfolding decode_pairs encode_with
spelt_pairs i [] bytes lower read = let e : [] ≡ bytes = (cc) in ap encode_lower e
spelt_pairs i (c ∷ []) bytes lower read = absurd (cc)
spelt_pairs i (high ∷ low ∷ rest) bytes lower read = pairs (pair_value high low i) (decode_pairs (i + 2) rest) refl refl read (spelt_pairs (i + 2) rest)
  where
    pairs : (r : Result ℕ FromHexError) (s : Result (List ℕ) FromHexError) → pair_value high low i ≡ r → decode_pairs (i + 2) rest ≡ s →
        (r >>= λ byte. s >>= λ more. Ok (byte ∷ more)) ≡ Ok bytes →
        ((more : List ℕ) → list_all is_lower_digit rest ≡ true → decode_pairs (i + 2) rest ≡ Ok more → rest ≡ encode_lower more) →
        high ∷ low ∷ rest ≡ encode_lower bytes
    pairs (Ok b) (Ok more) one others whole again =
        let first = and_parts (is_lower_digit high) (list_all is_lower_digit (low ∷ rest)) lower in
        let second = and_parts (is_lower_digit low) (list_all is_lower_digit rest) first.1 in
        let h = spelt_digit high first.0 in
        let l = spelt_digit low second.0 in
        let value = pair_digits high low i b one in
        let h16 = h.0 in
        let l16 = l.0 in
        let top : b / 16 ≡ digit_of high = omega (arith, value, h16, l16) in
        let bottom : b % 16 ≡ digit_of low = omega (arith, value, h16, l16) in
        let e : b ∷ more ≡ bytes = (cc) in
        ap₂ (λ x xs. x ∷ xs) (sym (h.1) ∙ ap (slice_index lower_digits) (sym top))
        (ap₂ (λ x xs. x ∷ xs) (sym (l.1) ∙ ap (slice_index lower_digits) (sym bottom)) (again more second.1 others))
        ∙ ap encode_lower e
    pairs (Ok b) (Err e) one others whole again = absurd (cc)
    pairs (Err e) s one others whole again = absurd (cc)

pub spelt : (text bytes : List ℕ) → list_all is_lower_digit text ≡ true → decode_of text ≡ Ok bytes → text ≡ encode_lower bytes
spelt text bytes lower read = elim (cases_Bool (length text % 2 == 1)) [
  | inl odd ↦ absurd (wrong (length text % 2 == 1) odd read)
  | inr even ↦ spelt_pairs 0 text bytes lower (right (length text % 2 == 1) even read)
]
  where
    wrong : (t : Bool) → t ≡ true → (if t then Err OddLength else decode_pairs 0 text) ≡ Ok bytes → ⊥
    wrong true is h = absurd (cc)
    wrong false is h = absurd (cc)

    right : (t : Bool) → t ≡ false → (if t then Err OddLength else decode_pairs 0 text) ≡ Ok bytes → decode_pairs 0 text ≡ Ok bytes
    right true is h = absurd (cc)
    right false is h = h

-- each digit that is written is such a digit
abbrev are_written_lower : ℕ → Bool
are_written_lower zero = true
are_written_lower (suc n) = is_lower_digit (slice_index lower_digits n) && are_written_lower n

written_at : (n d : ℕ) → are_written_lower n ≡ true → d < n → is_lower_digit (slice_index lower_digits d) ≡ true
written_at zero d h less = absurd (omega arith)
written_at (suc n) d h less =
    let parts = and_parts (is_lower_digit (slice_index lower_digits n)) (are_written_lower n) h in
    elim (cases_lt d n) [
      | inl below ↦ written_at n d parts.1 below
      | inr top ↦ let e : d ≡ n = omega arith in rw e parts.0
    ]

written : (d : ℕ) → d < 16 → is_lower_digit (slice_index lower_digits d) ≡ true
written d less = written_at 16 d refl less

all_written : (bytes : List ℕ) → IsBytes bytes → list_all is_lower_digit (encode_lower bytes) ≡ true
unfolding encode_with
all_written [] are = refl
all_written (b ∷ rest) are =
    let small : b < 256 = are 0 in
    let top : b / 16 < 16 = omega arith in
    let bottom : b % 16 < 16 = omega arith in
    and_from _ _ (written (b / 16) top) (and_from _ _ (written (b % 16) bottom) (all_written rest (λ i. are (suc i))))

pub not_upper : (text : List ℕ) → list_all is_lower_digit text ≡ false → (bytes : List ℕ) → IsBytes bytes → text ≢ encode_lower bytes
not_upper text other bytes are same = false≢true (sym other ∙ ap (list_all is_lower_digit) same ∙ all_written bytes are)

pub unread : (text : List ℕ) (e : FromHexError) → decode_of text ≡ Err e → (bytes : List ℕ) → IsBytes bytes → text ≢ encode_lower bytes
unread text e read bytes are same = absurd (apart e (sym read ∙ ap decode_of same ∙ decode_of-encode_lower bytes are))
  where
    apart : (e : FromHexError) → Err e ≡ Ok bytes → ⊥
    apart e h = absurd (cc)
