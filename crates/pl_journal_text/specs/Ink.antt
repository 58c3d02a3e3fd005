-- The words of a line are printed characters without a blank.
use Rattle.std.specs.Prelude.{◌≡◌, ℕ, zero, suc, ◌/◌, ◌%◌, ◌^◌, ◌<◌, ◌≤◌, ◌&&◌, ◌||◌, not, nat_lt, nat_le, Bool, true, false, List, [], ◌∷◌, ◌++◌, length, slice_index, slice_get, Option, Some, None, IsTrue, codes, decimal, refl}
use Rattle.std.specs.Fmt.{digit_glyph}
use Rattle.std.specs.Int.{byte_at}
use Rattle.std.specs.Option.{option_map_or}
use Rattle.std.proofs.Math.Nat.{mod-lt}
use Rattle.byteorder.specs.Endian.{big_bytes}
use Rattle.std.specs.List.{list_all}
use Rattle.std.proofs.Common.{◌==◌, subst, ◌∙◌, inl, inr, arith}
use Rattle.std.proofs.lemmas.Bool.{and_from, and_parts, cases_lt, eqb-true, leb-true, lt-ltb, ltb-true, or_cases}
use Rattle.std.proofs.lemmas.Fmt.{decimal_is_IsNumeral}
use Rattle.std.proofs.lemmas.List.Folds.{list_all-append}
use Rattle.std.proofs.lemmas.Option.{get_or_from_slice_get, slice_get_within}
use Rattle.std.proofs.lemmas.Str.Parse.{digit_at}
use Rattle.hex.specs.Hex.{IsBytes, encode_lower, encode_with, lower_digits}
use Rattle.pl_frame.specs.declared.address.Mac.{Mac}
use Rattle.pl_frame.specs.Address.{hex_pair, mac_text}
use Rattle.pl_pmac.specs.declared.pmac.Pmac.{Pmac}
use Rattle.pl_pmac.specs.Pmac.{mac_of, pmac_number}
use Rattle.pl_wiring.specs.declared.label.Label.{Label}
use Rattle.pl_wiring.specs.declared.label.Label.TheVariants.{Edge, Aggregation, Core}
use Rattle.pl_wiring.specs.declared.host.Host.{Host}
use Rattle.pl_wiring.specs.Labels.{IsLabel, label_of, label_text}
use Rattle.pl_wiring.specs.Plan.{IsPlan, Plan}
use Rattle.pl_wiring.specs.Texts.{is_name, is_name_byte, is_taken, is_within}
use Rattle.pl_wiring.proofs.Exports.{label_of-IsLabel}
use Rattle.pl_journal.specs.declared.cause.Cause.{Cause}
use Rattle.pl_journal.specs.declared.cause.Cause.TheVariants as causes
use Rattle.pl_journal.specs.declared.cause.Skip.{Skip}
use Rattle.pl_journal.specs.declared.cause.Skip.TheVariants as skips
use Rattle.pl_journal.specs.Text.{IsSwitch, address_text, cause_text, host_text, part_text, skip_text, switch_text}
use Rattle.pl_journal_text.specs.Reading.{IsFree}
use Rattle.pl_journal.specs.Ranges.{IsPart}

-- a printed character of ASCII, and no blank
abbrev pub is_ink : ℕ → Bool
is_ink byte = nat_lt 32 byte && nat_lt byte 127

abbrev pub AreInk : List ℕ → Type 0
AreInk text = list_all is_ink text ≡ true

pub ink_append : (a b : List ℕ) → AreInk a → AreInk b → AreInk (a ++ b)
ink_append a b first second = list_all-append is_ink a b ∙ and_from _ _ first second

pub all_ink : (text : List ℕ) → ((i : ℕ) → i < length text → is_ink (slice_index text i) ≡ true) → AreInk text
all_ink [] each = refl
all_ink (c ∷ text) each = and_from _ _ (each 0 (omega arith)) (all_ink text (λ i h. each (suc i) (omega arith)))

pub ink_at : (text : List ℕ) (i : ℕ) → AreInk text → i < length text → is_ink (slice_index text i) ≡ true
ink_at [] i are within = absurd (omega arith)
ink_at (c ∷ text) zero are within = (and_parts _ _ are).0
ink_at (c ∷ text) (suc i) are within = ink_at text i (and_parts (is_ink c) (list_all is_ink text) are).1 (omega arith)

-- no character below 33 is among them
pub free_of : (byte : ℕ) (text : List ℕ) → byte ≤ 32 → AreInk text → IsFree byte text
free_of byte text low are i within same =
    let parts = and_parts _ _ (ink_at text i are within) in
    let above : 32 < slice_index text i = ltb-true 32 (slice_index text i) parts.0 in
    absurd (omega arith)

ink_from : (c : ℕ) → 32 < c → c < 127 → is_ink c ≡ true
ink_from c low high = and_from _ _ (lt-ltb 32 c low) (lt-ltb c 127 high)

pub decimal_ink : (n : ℕ) → n < 2 ^ 64 → AreInk (decimal n)
decimal_ink n small =
    let digits = (decimal_is_IsNumeral n small).0.1 in
    all_ink (decimal n) (λ i within. let digit = digit_at (decimal n) i digits within in let low = digit.0 in let high = digit.1 in ink_from (slice_index (decimal n) i) (omega arith) (omega arith))

letter_ink : (letter : List ℕ) (a b : ℕ) → AreInk letter → a < 2 ^ 64 → b < 2 ^ 64 → AreInk (letter ++ decimal a ++ codes "." ++ decimal b)
letter_ink letter a b is small_a small_b =
    let front : AreInk (letter ++ decimal a) = ink_append letter (decimal a) is (decimal_ink a small_a) in
    let point : AreInk (letter ++ decimal a ++ codes ".") = ink_append (letter ++ decimal a) (codes ".") front refl in
    ink_append (letter ++ decimal a ++ codes ".") (decimal b) point (decimal_ink b small_b)

label_ink : (k : ℕ) (label : Label) → k ≤ 24 → IsLabel k label → AreInk (label_text label)
label_ink k (Edge pod i) small is = letter_ink (codes "e") pod i refl (omega (arith, is.0)) (omega (arith, is.1))
label_ink k (Aggregation pod j) small is = letter_ink (codes "a") pod j refl (omega (arith, is.0)) (omega (arith, is.1))
label_ink k (Core group m) small is = letter_ink (codes "c") group m refl (omega (arith, is.0)) (omega (arith, is.1))

pub switch_ink : (plan : Plan) (switch : ℕ) → IsPlan plan → IsSwitch plan switch → AreInk (switch_text plan switch)
switch_ink plan switch is there =
    let least = is.arity.least in
    let most = is.arity.most in
    label_ink plan.k (label_of plan.k switch) most (label_of-IsLabel plan.k switch (omega arith) there)

name_byte_ink : (c : ℕ) → is_name_byte c ≡ true → is_ink c ≡ true
name_byte_ink c is = elim (or_cases (is_within 97 122 c || is_within 48 57 c || c == 95) (c == 45) is) [
  | inl first ↦ elim (or_cases (is_within 97 122 c || is_within 48 57 c) (c == 95) first) [
    | inl second ↦ elim (or_cases (is_within 97 122 c) (is_within 48 57 c) second) [
      | inl letter ↦
          let parts = and_parts (nat_le 97 c) (nat_le c 122) letter in
          let low : 97 ≤ c = leb-true 97 c parts.0 in
          let high : c ≤ 122 = leb-true c 122 parts.1 in
          ink_from c (omega arith) (omega arith)
      | inr digit ↦
          let parts = and_parts (nat_le 48 c) (nat_le c 57) digit in
          let low : 48 ≤ c = leb-true 48 c parts.0 in
          let high : c ≤ 57 = leb-true c 57 parts.1 in
          ink_from c (omega arith) (omega arith)
    ]
    | inr line ↦ let e : c ≡ 95 = eqb-true c 95 line in ink_from c (omega arith) (omega arith)
  ]
  | inr dash ↦ let e : c ≡ 45 = eqb-true c 45 dash in ink_from c (omega arith) (omega arith)
]

name_bytes_ink : (text : List ℕ) → list_all is_name_byte text ≡ true → AreInk text
name_bytes_ink [] are = refl
name_bytes_ink (c ∷ text) are =
    let parts = and_parts (is_name_byte c) (list_all is_name_byte text) are in
    and_from _ _ (name_byte_ink c parts.0) (name_bytes_ink text parts.1)

name_ink : (text : List ℕ) → IsTrue (is_name text) → AreInk text
name_ink text is =
    let front = (and_parts (nat_le 1 (length text) && nat_le (length text) 32 && list_all is_name_byte text) (not (is_taken text)) is).0 in
    name_bytes_ink text (and_parts (nat_le 1 (length text) && nat_le (length text) 32) (list_all is_name_byte text) front).1

named : (plan : Plan) (host : ℕ) (found : Option Host) → slice_get plan.hosts host ≡ found → IsPlan plan → AreInk (option_map_or (λ (h : Host). h.name) found [])
named plan host None is plan_is = refl
named plan host (Some h) is plan_is =
    let within = slice_get_within plan.hosts host h is in
    let there = get_or_from_slice_get plan.hosts host h h is in
    name_ink h.name (subst (λ (g : Host). IsTrue (is_name g.name)) there (plan_is.names host h within))

pub host_ink : (plan : Plan) (host : ℕ) → IsPlan plan → AreInk (host_text plan host)
host_ink plan host is = named plan host (slice_get plan.hosts host) refl is

pub cause_ink : (cause : Cause) → AreInk (cause_text cause)
cause_ink causes.NotPlaced = refl
cause_ink causes.NoNextHop = refl
cause_ink causes.NoAddress = refl
cause_ink causes.HostGone = refl
cause_ink causes.LinkDown = refl
cause_ink causes.Lost = refl
cause_ink causes.Spent = refl
cause_ink causes.BadArp = refl
cause_ink causes.NoMember = refl

pub skip_ink : (skip : Skip) → AreInk (skip_text skip)
skip_ink skips.CutRecord = refl
skip_ink skips.Short = refl
skip_ink skips.Long = refl
skip_ink skips.ForeignSource = refl
skip_ink skips.ControlType = refl
skip_ink skips.RecordedArp = refl
skip_ink skips.NoOwner = refl
skip_ink skips.HoldFull = refl

pub part_ink : (limit : ℕ) (part : Option ℕ) → limit ≤ 2 ^ 64 → IsPart limit part → AreInk (part_text part)
part_ink limit None small fits = refl
part_ink limit (Some n) small fits = decimal_ink n (omega arith)

-- hexadecimal digits
abbrev are_digits_ink : ℕ → Bool
are_digits_ink zero = true
are_digits_ink (suc n) = is_ink (digit_glyph false n) && is_ink (slice_index lower_digits n) && are_digits_ink n

digit_ink : (n d : ℕ) → are_digits_ink n ≡ true → d < n → (is_ink (digit_glyph false d) ≡ true) × (is_ink (slice_index lower_digits d) ≡ true)
digit_ink zero d all less = absurd (omega arith)
digit_ink (suc n) d all less =
    let parts = and_parts (is_ink (digit_glyph false n) && is_ink (slice_index lower_digits n)) (are_digits_ink n) all in
    elim (cases_lt d n) [
      | inl below ↦ digit_ink n d parts.1 below
      | inr top ↦
          let e : n ≡ d = omega arith in
          let both = and_parts (is_ink (digit_glyph false n)) (is_ink (slice_index lower_digits n)) parts.0 in
          (subst (λ m. is_ink (digit_glyph false m) ≡ true) e both.0, subst (λ m. is_ink (slice_index lower_digits m) ≡ true) e both.1)
    ]

sixteen : are_digits_ink 16 ≡ true
sixteen = refl

pair_ink : (byte : ℕ) → byte < 256 → AreInk (hex_pair byte)
pair_ink byte small =
    and_from _ _ (digit_ink 16 (byte / 16) sixteen (omega arith)).0 (and_from _ _ (digit_ink 16 (byte % 16) sixteen (omega arith)).0 refl)

colon_ink : (text : List ℕ) (byte : ℕ) → AreInk text → byte < 256 → AreInk (text ++ codes ":" ++ hex_pair byte)
colon_ink text byte before small =
    let colon : AreInk (text ++ codes ":") = ink_append text (codes ":") before refl in
    ink_append (text ++ codes ":") (hex_pair byte) colon (pair_ink byte small)

pub mac_ink : (mac : Mac) → IsBytes mac.0 → AreInk (mac_text mac)
mac_ink mac are =
    let b : ℕ → List ℕ = λ i. hex_pair (slice_index mac.0 i) in
    let t1 : List ℕ = b 0 ++ codes ":" ++ b 1 in
    let t2 : List ℕ = t1 ++ codes ":" ++ b 2 in
    let t3 : List ℕ = t2 ++ codes ":" ++ b 3 in
    let t4 : List ℕ = t3 ++ codes ":" ++ b 4 in
    let i1 : AreInk t1 = colon_ink (b 0) (slice_index mac.0 1) (pair_ink (slice_index mac.0 0) (are 0)) (are 1) in
    let i2 : AreInk t2 = colon_ink t1 (slice_index mac.0 2) i1 (are 2) in
    let i3 : AreInk t3 = colon_ink t2 (slice_index mac.0 3) i2 (are 3) in
    let i4 : AreInk t4 = colon_ink t3 (slice_index mac.0 4) i3 (are 4) in
    colon_ink t4 (slice_index mac.0 5) i4 (are 5)

pub frame_ink : (bytes : List ℕ) → IsBytes bytes → AreInk (encode_lower bytes)
unfolding encode_with
frame_ink [] are = refl
frame_ink (b ∷ rest) are =
    let small : b < 256 = are 0 in
    and_from _ _ (digit_ink 16 (b / 16) sixteen (omega arith)).1
    (and_from _ _ (digit_ink 16 (b % 16) sixteen (omega arith)).1 (frame_ink rest (λ i. are (suc i))))

byte_small : (k x : ℕ) → byte_at k x < 256
byte_small zero x = mod-lt x (omega arith)
byte_small (suc k) x = mod-lt (x / 256 ^ suc k) (omega arith)

bytes_of-number : (n x : ℕ) → IsBytes (big_bytes n x)
bytes_of-number zero x i = omega arith
bytes_of-number (suc n) x zero = byte_small n x
bytes_of-number (suc n) x (suc i) = bytes_of-number n x i

pub address_bytes : (pmac : Pmac) → IsBytes (mac_of pmac).0
address_bytes pmac = bytes_of-number 6 (pmac_number pmac)

pub address_ink : (pmac : Pmac) → AreInk (address_text pmac)
address_ink pmac = mac_ink (mac_of pmac) (address_bytes pmac)

pub at_most_blank : 32 ≤ 32
at_most_blank = omega arith

pub byte_within : 2 ^ 8 ≤ 2 ^ 64
byte_within = omega arith

pub short_within : 2 ^ 16 ≤ 2 ^ 64
short_within = omega arith
