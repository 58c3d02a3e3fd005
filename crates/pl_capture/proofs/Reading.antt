-- The reading of a file is what the grammar says of it, and nothing else.
use Rattle.std.proofs.Common.{◌≡◌, All, Bool, true, false, cond, ℕ, zero, suc, ◌+◌, ◌-◌, ◌<◌, ◌≤◌, ◌⊎◌, ◌↔◌, inl, inr, List, [], ◌∷◌, length, Option, Some, None, Result, Ok, Err, refl, sym, ◌∙◌, ap, subst, arith}
use Rattle.std.proofs.lemmas.Bool.{lt-ltb, le-ltb, cases_lt}
use Rattle.std.proofs.lemmas.List.Elements.{All-from_recursion}
use Rattle.std.specs.List.{AllByRecursion}
use Rattle.pl_capture.specs.Header.{header_of, header_in, order_of, is_version, is_ethernet}
use Rattle.pl_capture.specs.Record.{captured, behind, IsTail, IsTooLong, record_in}
use Rattle.pl_capture.specs.Capture.{AreRecords, BeginsWithRecords, IsCapture, IsCaptureRefused, CaptureReading, with_first, read_on, reading_from, reading_in, reading_of}
use Rattle.pl_capture.specs.declared.endianness.Endianness.{Endianness}
use Rattle.pl_capture.specs.declared.records.Captured.{Captured}
use Rattle.pl_capture.specs.declared.error.CaptureError.{CaptureError}
use Rattle.pl_capture.specs.declared.error.CaptureError.TheVariants.{BadVersion, BadLink, BadRecord}
use Rattle.pl_capture.proofs.Standing.{Found, got, nothing, refused, record_in-IsTail, record_in-IsTooLong, record_in-IsRecord, cases_at}

abbrev pub gives : List Captured → ℕ → CaptureReading
gives records tail = Ok (records, tail)

abbrev pub fails : CaptureError → CaptureReading
fails e = Err e

-- one step of the reading, by what stands there
reading_from-step : (n : ℕ) (file : List ℕ) (order : Endianness) (at : ℕ) (found : Found) →
    record_in file order at ≡ found →
    reading_from (suc n) file order at ≡ read_on found (λ c. reading_from n file order (behind c))
    (length file - at)
unfolding reading_from
reading_from-step n file order at found is =
    ap (λ (f : Found). read_on f (λ c. reading_from n file order (behind c)) (length file - at)) is

reading_from-none : (file : List ℕ) (order : Endianness) (at : ℕ) →
    reading_from zero file order at ≡ gives [] (length file - at)
unfolding reading_from
reading_from-none file order at = refl

-- records up to a tail are read as these records, and the tail
walk_to_tail : (n : ℕ) (file : List ℕ) (order : Endianness) (from : ℕ) (records : List Captured)
    (to : ℕ) → length file ≤ from + n → AreRecords file order from records to →
    IsTail file order to → reading_from n file order from ≡ gives records (length file - to)
walk_to_tail zero file order from [] to room is tail =
    reading_from-none file order from ∙ ap (λ (t : ℕ). gives [] (length file - t)) (sym is)
walk_to_tail (suc n) file order from [] to room is tail =
    let here = subst (λ (t : ℕ). IsTail file order t) is tail in
    reading_from-step n file order from nothing (record_in-IsTail file order from here)
    ∙ ap (λ (t : ℕ). gives [] (length file - t)) (sym is)
walk_to_tail zero file order from (c ∷ cs) to room are tail =
    let head = ap behind are.0.head in
    absurd (omega (arith, are.0.whole, head))
walk_to_tail (suc n) file order from (c ∷ cs) to room are tail =
    let head = ap behind are.0.head in
    let rest = walk_to_tail n file order (behind c) cs to (omega (arith, head)) are.1 tail in
    reading_from-step n file order from (got c) (record_in-IsRecord file order from c are.0)
    ∙ ap (with_first c) rest

-- records up to a head with too large a length are refused there
walk_to_long : (n : ℕ) (file : List ℕ) (order : Endianness) (from : ℕ) (records : List Captured)
    (to : ℕ) → length file ≤ from + n → AreRecords file order from records to →
    IsTooLong file order to → reading_from n file order from ≡ fails (BadRecord to)
walk_to_long zero file order from [] to room is long = absurd (omega (arith, long.0, is))
walk_to_long (suc n) file order from [] to room is long =
    let here = subst (λ (t : ℕ). IsTooLong file order t) is long in
    reading_from-step n file order from (refused (BadRecord from))
    (record_in-IsTooLong file order from here)
    ∙ ap (λ (t : ℕ). fails (BadRecord t)) (sym is)
walk_to_long zero file order from (c ∷ cs) to room are long =
    let head = ap behind are.0.head in
    absurd (omega (arith, are.0.whole, head))
walk_to_long (suc n) file order from (c ∷ cs) to room are long =
    let head = ap behind are.0.head in
    let rest = walk_to_long n file order (behind c) cs to (omega (arith, head)) are.1 long in
    reading_from-step n file order from (got c) (record_in-IsRecord file order from c are.0)
    ∙ ap (with_first c) rest

-- a walk comes to a tail, or to a head with too large a length
abbrev Ends : List ℕ → Endianness → ℕ → Type 0
Ends file order from =
    (records : List Captured) × (to : ℕ) × AreRecords file order from records to × (IsTail file order to ⊎ IsTooLong file order to)

walks_end : (n : ℕ) (file : List ℕ) (order : Endianness) (from : ℕ) → length file ≤ from + n →
    Ends file order from
walks_end zero file order from room = ([], from, refl, inl (inl (omega arith)))
walks_end (suc n) file order from room =
    elim (cases_at file order from) [
      | inr others ↦ ([], from, refl, others)
      | inl whole ↦
          let rest = walks_end n file order (behind (captured file order from)) (omega arith) in
          (captured file order from ∷ rest.0, rest.1, (whole, rest.2), rest.3)
    ]

reading_of-header : (file : List ℕ) (header : Result (Option Endianness) CaptureError) →
    header_of file ≡ header → reading_of file ≡ reading_in file header
unfolding reading_of
reading_of-header file header is = ap (reading_in file) is

pub header_of-short : (file : List ℕ) → length file < 24 → header_of file ≡ Ok None
unfolding header_of
header_of-short file short = rw (lt-ltb (length file) 24 short) refl

-- a header that is read tells a byte order
tests-not_none : (version ethernet : Bool) (order : Endianness) →
    cond version (cond ethernet (Ok (Some order)) (Err BadLink)) (Err BadVersion) ≡ Ok None → ⊥
tests-not_none true true order is = cc
tests-not_none true false order is = cc
tests-not_none false ethernet order is = cc

header_in-not_none : (file : List ℕ) (order : Option Endianness) → header_in file order ≡ Ok None →
    ⊥
header_in-not_none file None is = cc
header_in-not_none file (Some order) is =
    tests-not_none (is_version file order) (is_ethernet file order) order is

-- no byte order only where no header has room
pub short_from_none : (file : List ℕ) → header_of file ≡ Ok None → length file < 24
unfolding header_of
short_from_none file is =
    elim (cases_lt (length file) 24) [
      | inl short ↦ short
      | inr room ↦ absurd (header_in-not_none file (order_of file)
          (rw (le-ltb (length file) 24 room) at is))
    ]

-- a file of one reading that begins so
pub reading_of-tail : (file : List ℕ) (order : Endianness) (records : List Captured) (end : ℕ) →
    BeginsWithRecords file order records end → IsTail file order end →
    reading_of file ≡ gives records (length file - end)
reading_of-tail file order records end begins tail =
    reading_of-header file (Ok (Some order)) begins.header
    ∙ walk_to_tail (length file) file order 24 records end (omega arith) begins.follow tail

pub reading_of-long : (file : List ℕ) (order : Endianness) (records : List Captured) (at : ℕ) →
    BeginsWithRecords file order records at → IsTooLong file order at → reading_of file ≡ fails (BadRecord at)
reading_of-long file order records at begins long =
    reading_of-header file (Ok (Some order)) begins.header
    ∙ walk_to_long (length file) file order 24 records at (omega arith) begins.follow long

pub reading_of-refused : (file : List ℕ) (e : CaptureError) → header_of file ≡ Err e →
    reading_of file ≡ fails e
reading_of-refused file e is = reading_of-header file (Err e) is

pub reading_of-short : (file : List ℕ) → header_of file ≡ Ok None →
    reading_of file ≡ gives [] (length file)
reading_of-short file is = reading_of-header file (Ok None) is

-- a file is a capture, or refused
abbrev IsEither : List ℕ → Type 0
IsEither file =
    ((records : List Captured) × (tail : ℕ) × IsCapture file records tail) ⊎ ((e : CaptureError) × IsCaptureRefused file e)

either_ended : (file : List ℕ) (order : Endianness) → header_of file ≡ Ok (Some order) →
    Ends file order 24 → IsEither file
unfolding IsCapture IsCaptureRefused
either_ended file order header (records, to, are, inl tail) =
    inl (records, length file - to, inr (order, to, record { header = header; follow = are }, tail, refl))
either_ended file order header (records, to, are, inr long) =
    inr (BadRecord to, inr (order, records, to, record { header = header; follow = are }, long, refl))

either_in : (file : List ℕ) (header : Result (Option Endianness) CaptureError) →
    header_of file ≡ header → IsEither file
unfolding IsCapture IsCaptureRefused
either_in file (Err e) is = inr (e, inl is)
either_in file (Ok None) is = inl ([], length file, inl (short_from_none file is, refl, refl))
either_in file (Ok (Some order)) is =
    either_ended file order is (walks_end (length file) file order 24 (omega arith))

pub IsCapture-reading : (file : List ℕ) (records : List Captured) (tail : ℕ) →
    IsCapture file records tail → reading_of file ≡ gives records tail
unfolding IsCapture
IsCapture-reading file records tail (inl (short, none, all)) =
    reading_of-short file (header_of-short file short)
    ∙ ap (λ (rs : List Captured). gives rs (length file)) (sym none)
    ∙ ap (gives records) (sym all)
IsCapture-reading file records tail (inr (order, end, begins, rest, is)) =
    reading_of-tail file order records end begins rest ∙ ap (gives records) (sym is)

pub IsCaptureRefused-reading : (file : List ℕ) (e : CaptureError) → IsCaptureRefused file e →
    reading_of file ≡ fails e
unfolding IsCaptureRefused
IsCaptureRefused-reading file e (inl header) = reading_of-refused file e header
IsCaptureRefused-reading file e (inr (order, records, at, begins, long, is)) =
    reading_of-long file order records at begins long ∙ ap fails (sym is)

abbrev read : List Captured × ℕ → CaptureReading
read both = Ok both

read_same : (p q : List Captured × ℕ) → read p ≡ read q → p ≡ q
read_same p q h = cc

gives_same : (rs qs : List Captured) (t u : ℕ) → gives rs t ≡ gives qs u → (rs ≡ qs) × (t ≡ u)
gives_same rs qs t u h =
    let both = read_same (rs, t) (qs, u) h in
    (ap (λ (p : List Captured × ℕ). p.0) both, ap (λ (p : List Captured × ℕ). p.1) both)

fails_same : (e f : CaptureError) → fails e ≡ fails f → e ≡ f
fails_same e f h = cc

gives_not_fails : {P : Type 0} (rs : List Captured) (t : ℕ) (e : CaptureError) →
    gives rs t ≡ fails e → P
gives_not_fails rs t e h = absurd (cc)

capture_from : (file : List ℕ) (records : List Captured) (tail : ℕ) →
    reading_of file ≡ gives records tail → IsEither file → IsCapture file records tail
capture_from file records tail is (inl (rs, t, capture)) =
    let same = gives_same rs records t tail (sym (IsCapture-reading file rs t capture) ∙ is) in
    let P : List Captured → Type 0 = λ qs. IsCapture file qs t in
    subst (λ (u : ℕ). IsCapture file records u) same.1 (subst P same.0 capture)
capture_from file records tail is (inr (e, other)) =
    gives_not_fails records tail e (sym is ∙ IsCaptureRefused-reading file e other)

refused_from : (file : List ℕ) (e : CaptureError) → reading_of file ≡ fails e → IsEither file →
    IsCaptureRefused file e
refused_from file e is (inl (rs, t, capture)) =
    gives_not_fails rs t e (sym (IsCapture-reading file rs t capture) ∙ is)
refused_from file e is (inr (f, other)) =
    subst (IsCaptureRefused file) (fails_same f e (sym (IsCaptureRefused-reading file f other) ∙ is)) other

pub one_reading-capture : (file : List ℕ) (records : List Captured) (tail : ℕ) →
    IsCapture file records tail ↔ (reading_of file ≡ gives records tail)
one_reading-capture file records tail =
    (IsCapture-reading file records tail, λ is. capture_from file records tail is (either_in file (header_of file) refl))

pub one_reading-refused : (file : List ℕ) (e : CaptureError) →
    IsCaptureRefused file e ↔ (reading_of file ≡ fails e)
one_reading-refused file e =
    (IsCaptureRefused-reading file e, λ is. refused_from file e is (either_in file (header_of file) refl))

-- The records of a reading lie within the file.

AreRecords-within_each : (file : List ℕ) (order : Endianness) (from : ℕ) (records : List Captured)
    (to : ℕ) → AreRecords file order from records to →
    AllByRecursion (λ c. behind c ≤ length file) records
AreRecords-within_each file order from [] to is = tt
AreRecords-within_each file order from (c ∷ cs) to are =
    (are.0.whole, AreRecords-within_each file order (behind c) cs to are.1)

IsCapture-within_each : (file : List ℕ) (records : List Captured) (tail : ℕ) →
    IsCapture file records tail → AllByRecursion (λ c. behind c ≤ length file) records
unfolding IsCapture
IsCapture-within_each file records tail (inl (short, none, all)) =
    subst (AllByRecursion (λ c. behind c ≤ length file)) (sym none) tt
IsCapture-within_each file records tail (inr (order, end, begins, rest, is)) =
    AreRecords-within_each file order 24 records end begins.follow

pub reading-within : (file : List ℕ) (records : List Captured) (tail : ℕ) →
    reading_of file ≡ gives records tail → All (λ c. behind c ≤ length file) records
reading-within file records tail is =
    All-from_recursion (λ (c : Captured). behind c ≤ length file) records
    (IsCapture-within_each file records tail (capture_from file records tail is (either_in file (header_of file) refl)))
