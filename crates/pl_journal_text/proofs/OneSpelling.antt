-- A word is the spelling of one value.
use Rattle.std.proofs.Common.{◌≡◌, ◌≢◌, ℕ, ◌/◌, ◌^◌, ◌<◌, ◌≤◌, ◌&&◌, nat_le, Bool, true, false, List, [], ◌∷◌, ◌++◌, length, get_or, slice_get, codes, decimal, Option, Some, None, Result, Ok, refl, sym, ap, ap₂, subst, ◌∙◌, inl, inr, arith, append_assoc}
use Rattle.std.specs.List.{find}
use Rattle.std.specs.Option.{option_map_or}
use Rattle.std.specs.Str.{bytes_eq}
use Rattle.std.proofs.lemmas.Fmt.{decimal_injective, decimal_is_IsNumeral, decimal_nonempty}
use Rattle.std.proofs.lemmas.Bool.{and_from, and_parts, cases_lt, false≢true, le-leb, leb-true}
use Rattle.std.proofs.lemmas.Option.{get_or_from_slice_get, slice_get_cases}
use Rattle.std.proofs.lemmas.Str.Parse.{digit_at}
use Rattle.hex.specs.Hex.{IsBytes, decode_of, encode_lower}
use Rattle.hex.specs.declared.error.FromHexError.{FromHexError}
use Rattle.hex.proofs.HexLemmas.{decode_of-encode_lower}
use Rattle.pl_pmac.specs.declared.pmac.Pmac.{Pmac}
use Rattle.pl_pmac.specs.Pmac.{PmacFits, mac_of, pmac_of}
use Rattle.pl_pmac.proofs.Exports.{pmac_of-mac_of}
use Rattle.pl_wiring.specs.declared.host.Host.{Host}
use Rattle.pl_wiring.specs.declared.label.Label.{Label}
use Rattle.pl_wiring.specs.declared.label.Label.TheVariants.{Edge, Aggregation, Core}
use Rattle.pl_wiring.specs.Labels.{IsLabel, label_of, label_text, number_of}
use Rattle.pl_wiring.specs.Plan.{IsPlan, Plan}
use Rattle.pl_wiring.proofs.Exports.{label_of-IsLabel, number_of-label_of}
use Rattle.pl_journal.specs.declared.cause.Cause.{Cause}
use Rattle.pl_journal.specs.declared.cause.Cause.TheVariants as causes
use Rattle.pl_journal.specs.declared.cause.Skip.{Skip}
use Rattle.pl_journal.specs.declared.cause.Skip.TheVariants as skips
use Rattle.pl_journal.specs.Text.{IsHost, IsSwitch, address_text, cause_text, host_text, part_text, skip_text, switch_text}
use Rattle.pl_journal_text.specs.declared.verb.Verb.{Verb}
use Rattle.pl_journal_text.specs.declared.verb.Verb.TheVariants as verbs
use Rattle.pl_journal_text.specs.Ink.{address_bytes}
use Rattle.pl_journal_text.specs.Reading.{IsFree, Reads}
use Rattle.pl_journal_text.specs.Verbs.{all_causes, all_skips, all_verbs, verb_text}
use Rattle.pl_journal.specs.Ranges.{IsFrame, IsPart}
use Rattle.pl_journal_text.proofs.AddressLemmas.{same_digits, written, written_long}
use Rattle.pl_journal_text.proofs.Cuts.{cut_once}

-- labels
no_point : (n : ℕ) → n < 2 ^ 64 → IsFree 46 (decimal n)
no_point n small i within same =
    let digit = digit_at (decimal n) i (decimal_is_IsNumeral n small).0.1 within in
    let low = digit.0 in
    absurd (omega arith)

numbers_once : (a b x y : ℕ) → a < 2 ^ 64 → b < 2 ^ 64 → x < 2 ^ 64 → y < 2 ^ 64 → decimal a ++ 46 ∷ decimal b ≡ decimal x ++ 46 ∷ decimal y → (a ≡ x) × (b ≡ y)
numbers_once a b x y sa sb sx sy same =
    let parts = cut_once 46 (decimal a) (decimal b) (decimal x) (decimal y) (no_point a sa) (no_point x sx) same in
    (decimal_injective a x sa sx parts.0, decimal_injective b y sb sy parts.1)

abbrev letter_text : ℕ → ℕ → ℕ → List ℕ
letter_text letter a b = letter ∷ (decimal a ++ 46 ∷ decimal b)

edge_is : (a b : ℕ) → label_text (Edge a b) ≡ letter_text 101 a b
edge_is a b = simp append_assoc

aggregation_is : (a b : ℕ) → label_text (Aggregation a b) ≡ letter_text 97 a b
aggregation_is a b = simp append_assoc

core_is : (a b : ℕ) → label_text (Core a b) ≡ letter_text 99 a b
core_is a b = simp append_assoc

letters : (l m a b x y : ℕ) → letter_text l a b ≡ letter_text m x y → (l ≡ m) × (decimal a ++ 46 ∷ decimal b ≡ decimal x ++ 46 ∷ decimal y)
letters l m a b x y same = ((cc), (cc))

label_once : (k : ℕ) (l m : Label) → k ≤ 24 → IsLabel k l → IsLabel k m → label_text l ≡ label_text m → l ≡ m
label_once k (Edge a b) (Edge x y) small l m same =
    let parts = letters 101 101 a b x y (sym (edge_is a b) ∙ same ∙ edge_is x y) in
    let e = numbers_once a b x y (omega (arith, l.0)) (omega (arith, l.1)) (omega (arith, m.0)) (omega (arith, m.1)) parts.1 in
    ap₂ (λ p q. Edge p q) e.0 e.1
label_once k (Aggregation a b) (Aggregation x y) small l m same =
    let parts = letters 97 97 a b x y (sym (aggregation_is a b) ∙ same ∙ aggregation_is x y) in
    let e = numbers_once a b x y (omega (arith, l.0)) (omega (arith, l.1)) (omega (arith, m.0)) (omega (arith, m.1)) parts.1 in
    ap₂ (λ p q. Aggregation p q) e.0 e.1
label_once k (Core a b) (Core x y) small l m same =
    let parts = letters 99 99 a b x y (sym (core_is a b) ∙ same ∙ core_is x y) in
    let e = numbers_once a b x y (omega (arith, l.0)) (omega (arith, l.1)) (omega (arith, m.0)) (omega (arith, m.1)) parts.1 in
    ap₂ (λ p q. Core p q) e.0 e.1
label_once k (Edge a b) (Aggregation x y) small l m same = let e = (letters 101 97 a b x y (sym (edge_is a b) ∙ same ∙ aggregation_is x y)).0 in absurd (omega arith)
label_once k (Edge a b) (Core x y) small l m same = let e = (letters 101 99 a b x y (sym (edge_is a b) ∙ same ∙ core_is x y)).0 in absurd (omega arith)
label_once k (Aggregation a b) (Edge x y) small l m same = let e = (letters 97 101 a b x y (sym (aggregation_is a b) ∙ same ∙ edge_is x y)).0 in absurd (omega arith)
label_once k (Aggregation a b) (Core x y) small l m same = let e = (letters 97 99 a b x y (sym (aggregation_is a b) ∙ same ∙ core_is x y)).0 in absurd (omega arith)
label_once k (Core a b) (Edge x y) small l m same = let e = (letters 99 101 a b x y (sym (core_is a b) ∙ same ∙ edge_is x y)).0 in absurd (omega arith)
label_once k (Core a b) (Aggregation x y) small l m same = let e = (letters 99 97 a b x y (sym (core_is a b) ∙ same ∙ aggregation_is x y)).0 in absurd (omega arith)

pub same_switch : (plan : Plan) (s t : ℕ) → IsPlan plan → IsSwitch plan s → IsSwitch plan t → switch_text plan s ≡ switch_text plan t → s ≡ t
same_switch plan s t is first second same =
    let least = is.arity.least in
    let half : 0 < plan.k / 2 = omega arith in
    let label = label_once plan.k (label_of plan.k s) (label_of plan.k t) is.arity.most (label_of-IsLabel plan.k s half first) (label_of-IsLabel plan.k t half second) same in
    sym (number_of-label_of plan.k s) ∙ ap (number_of plan.k) label ∙ number_of-label_of plan.k t

-- hosts
name_at : (plan : Plan) (n : ℕ) (h : Host) → slice_get plan.hosts n ≡ Some h → host_text plan n ≡ h.name
name_at plan n h is = ap (λ o. option_map_or (λ (h : Host). h.name) o []) is

not_before : (plan : Plan) (g h : ℕ) → IsPlan plan → IsHost plan h → g < h → host_text plan g ≢ host_text plan h
not_before plan g h is within less same = elim (slice_get_cases plan.hosts g).1 [
  | inl first ↦ elim (slice_get_cases plan.hosts h).1 [
    | inl second ↦
        let apart = is.names_apart g h first.0 less within in
        let ng : (get_or plan.hosts g first.0).name ≡ first.0.name = ap (λ (x : Host). x.name) first.3 in
        let nh : (get_or plan.hosts h first.0).name ≡ second.0.name = ap (λ (x : Host). x.name) (get_or_from_slice_get plan.hosts h second.0 first.0 second.2) in
        apart (ng ∙ sym (name_at plan g first.0 first.2) ∙ same ∙ name_at plan h second.0 second.2 ∙ sym nh)
    | inr past ↦ let l = past.0 in absurd (omega arith)
  ]
  | inr past ↦ let l = past.0 in absurd (omega arith)
]

pub same_host : (plan : Plan) (g h : ℕ) → IsPlan plan → IsHost plan g → IsHost plan h → host_text plan g ≡ host_text plan h → g ≡ h
same_host plan g h is first second same = elim (cases_lt g h) [
  | inl less ↦ absurd (not_before plan g h is second less same)
  | inr over ↦ elim (cases_lt h g) [
    | inl more ↦ absurd (not_before plan h g is first more (sym same))
    | inr under ↦ omega arith
  ]
]

-- bytes and addresses
abbrev decoded : List ℕ → Result (List ℕ) FromHexError
decoded bytes = Ok bytes

pub same_bytes : (a b : List ℕ) → IsBytes a → IsBytes b → encode_lower a ≡ encode_lower b → a ≡ b
same_bytes a b first second same =
    let e : decoded a ≡ decoded b = sym (decode_of-encode_lower a first) ∙ ap decode_of same ∙ decode_of-encode_lower b second in
    (cc)

-- frames, which have a length of theirs
pub no_bytes : (text : List ℕ) (read : Option (List ℕ)) → Reads encode_lower IsBytes text read → read ≡ None → (x : List ℕ) → IsFrame x → text ≢ encode_lower x
no_bytes text None reads none x fits = reads x fits.2
no_bytes text (Some found) reads none x fits = absurd (cc)

abbrev has_length : List ℕ → Bool
has_length frame = nat_le 14 (length frame) && nat_le (length frame) 65553

pub is_frame : (text : List ℕ) (read : Option (List ℕ)) (frame : List ℕ) → Reads encode_lower IsBytes text read → read ≡ Some frame → has_length frame ≡ true →
    IsFrame frame × (text ≡ encode_lower frame)
is_frame text None frame reads some long = absurd (cc)
is_frame text (Some found) frame reads some long =
    let same : found ≡ frame = (cc) in
    let parts = and_parts (nat_le 14 (length frame)) (nat_le (length frame) 65553) long in
    ((leb-true 14 (length frame) parts.0, leb-true (length frame) 65553 parts.1, subst (λ (b : List ℕ). IsBytes b) same reads.0), reads.1 ∙ ap encode_lower same)

pub not_frame : (text : List ℕ) (read : Option (List ℕ)) (frame : List ℕ) → Reads encode_lower IsBytes text read → read ≡ Some frame → has_length frame ≡ false →
    (x : List ℕ) → IsFrame x → text ≢ encode_lower x
not_frame text None frame reads some other x fits same = absurd (cc)
not_frame text (Some found) frame reads some other x fits same =
    let equal : found ≡ frame = (cc) in
    let e : x ≡ frame = sym (same_bytes found x reads.0 fits.2 (sym (reads.1) ∙ same)) ∙ equal in
    let is : has_length x ≡ true = and_from (nat_le 14 (length x)) (nat_le (length x) 65553) (le-leb 14 (length x) fits.0) (le-leb (length x) 65553 fits.1) in
    false≢true (sym other ∙ ap has_length (sym e) ∙ is)

pub same_address : (x y : Pmac) → PmacFits x → PmacFits y → address_text x ≡ address_text y → x ≡ y
same_address x y first second same =
    let digits = same_digits (encode_lower (mac_of x).0) (encode_lower (mac_of y).0) (written_long x) (written_long y) (sym (written x) ∙ same ∙ written y) in
    let bytes = same_bytes (mac_of x).0 (mac_of y).0 (address_bytes x) (address_bytes y) digits in
    sym (pmac_of-mac_of x first) ∙ ap (λ (b : List ℕ). pmac_of (record { 0 = b })) bytes ∙ pmac_of-mac_of y second

-- parts of places
no_dash : (n : ℕ) → n < 2 ^ 64 → decimal n ≢ codes "-"
no_dash n small same =
    let long = decimal_nonempty n small in
    let digit = digit_at (decimal n) 0 (decimal_is_IsNumeral n small).0.1 long in
    let low : 48 ≤ get_or (decimal n) 0 0 = digit.0 in
    let dash : get_or (decimal n) 0 0 ≡ 45 = ap (λ l. get_or l 0 0) same in
    absurd (omega arith)

pub same_part : (limit : ℕ) (p q : Option ℕ) → limit ≤ 2 ^ 64 → IsPart limit p → IsPart limit q → part_text p ≡ part_text q → p ≡ q
same_part limit None None few first second same = refl
same_part limit (Some m) (Some n) few first second same = ap (λ k. Some k) (decimal_injective m n (omega arith) (omega arith) same)
same_part limit None (Some n) few first second same = absurd (no_dash n (omega arith) (sym same))
same_part limit (Some m) None few first second same = absurd (no_dash m (omega arith) same)

-- words of lists
by_finding : {A : Type 0} (spelling : A → List ℕ) (all : List A) (x y : A) → find (λ z. bytes_eq (spelling z) (spelling x)) all ≡ Some x →
    find (λ z. bytes_eq (spelling z) (spelling y)) all ≡ Some y → spelling x ≡ spelling y → x ≡ y
by_finding spelling all x y first second same =
    let e : Some x ≡ Some y = sym first ∙ ap (λ text. find (λ z. bytes_eq (spelling z) text) all) same ∙ second in
    (cc)

cause_found : (x : Cause) → find (λ z. bytes_eq (cause_text z) (cause_text x)) all_causes ≡ Some x
cause_found causes.NotPlaced = refl
cause_found causes.NoNextHop = refl
cause_found causes.NoAddress = refl
cause_found causes.HostGone = refl
cause_found causes.LinkDown = refl
cause_found causes.Lost = refl
cause_found causes.Spent = refl
cause_found causes.BadArp = refl
cause_found causes.NoMember = refl

pub same_cause : (x y : Cause) → cause_text x ≡ cause_text y → x ≡ y
same_cause x y same = by_finding cause_text all_causes x y (cause_found x) (cause_found y) same

skip_found : (x : Skip) → find (λ z. bytes_eq (skip_text z) (skip_text x)) all_skips ≡ Some x
skip_found skips.CutRecord = refl
skip_found skips.Short = refl
skip_found skips.Long = refl
skip_found skips.ForeignSource = refl
skip_found skips.ControlType = refl
skip_found skips.RecordedArp = refl
skip_found skips.NoOwner = refl
skip_found skips.HoldFull = refl

pub same_skip : (x y : Skip) → skip_text x ≡ skip_text y → x ≡ y
same_skip x y same = by_finding skip_text all_skips x y (skip_found x) (skip_found y) same

verb_found : (x : Verb) → find (λ z. bytes_eq (verb_text z) (verb_text x)) all_verbs ≡ Some x
verb_found verbs.Line = refl
verb_found verbs.Sent = refl
verb_found verbs.Skipped = refl
verb_found verbs.Made = refl
verb_found verbs.Crossed = refl
verb_found verbs.Redirected = refl
verb_found verbs.Copied = refl
verb_found verbs.Arrived = refl
verb_found verbs.Taken = refl
verb_found verbs.Dropped = refl
verb_found verbs.Granted = refl
verb_found verbs.Registered = refl
verb_found verbs.Freed = refl
verb_found verbs.Placed = refl
verb_found verbs.LinkDown = refl
verb_found verbs.LinkUp = refl
verb_found verbs.Moved = refl
verb_found verbs.Restarted = refl
verb_found verbs.Settled = refl
verb_found verbs.Unsettled = refl

pub same_verb : (x y : Verb) → verb_text x ≡ verb_text y → x ≡ y
same_verb x y same = by_finding verb_text all_verbs x y (verb_found x) (verb_found y) same
