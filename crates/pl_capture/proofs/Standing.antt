-- What stands at an offset of a file is exactly one of three: a whole record, a head with too large
-- a captured length, or less than a whole record.
use Rattle.std.proofs.Common.{◌≡◌, ℕ, ◌+◌, ◌≤◌, ◌⊎◌, inl, inr, List, length, Option, Some, None, Result, Ok, Err, refl, sym, ◌∙◌, ap, subst, arith}
use Rattle.std.proofs.lemmas.Bool.{lt-ltb, le-ltb, cases_lt}
use Rattle.pl_capture.specs.Record.{captured, behind, IsRecord, IsTail, IsTooLong, record_in}
use Rattle.pl_capture.specs.declared.endianness.Endianness.{Endianness}
use Rattle.pl_capture.specs.declared.records.Captured.{Captured}
use Rattle.pl_capture.specs.declared.error.CaptureError.{CaptureError}
use Rattle.pl_capture.specs.declared.error.CaptureError.TheVariants.{BadRecord}

abbrev pub Found : Type 0
Found = Result (Option Captured) CaptureError

abbrev pub read_as : Option Captured → Found
read_as found = Ok found

abbrev pub got : Captured → Found
got c = Ok (Some c)

abbrev pub nothing : Found
nothing = Ok None

abbrev pub refused : CaptureError → Found
refused e = Err e

got_same : (c d : Captured) → got c ≡ got d → c ≡ d
got_same c d h = cc

refused_same : (e f : CaptureError) → refused e ≡ refused f → e ≡ f
refused_same e f h = cc

got_not_nothing : {P : Type 0} (c : Captured) → got c ≡ nothing → P
got_not_nothing c h = absurd (cc)

got_not_refused : {P : Type 0} (c : Captured) (e : CaptureError) → got c ≡ refused e → P
got_not_refused c e h = absurd (cc)

nothing_not_refused : {P : Type 0} (e : CaptureError) → nothing ≡ refused e → P
nothing_not_refused e h = absurd (cc)

pub record_in-IsTail : (file : List ℕ) (order : Endianness) (at : ℕ) → IsTail file order at →
    record_in file order at ≡ nothing
unfolding record_in
record_in-IsTail file order at (inl cut) = rw (lt-ltb (length file) (at + 16) cut) refl
record_in-IsTail file order at (inr cut) =
    elim (cases_lt (length file) (at + 16)) [
      | inl less ↦ rw (lt-ltb (length file) (at + 16) less) refl
      | inr more ↦
          rw (
            le-ltb (length file) (at + 16) more,
            le-ltb 262144 (captured file order at).len cut.0,
            lt-ltb (length file) (behind (captured file order at)) cut.1,
          )
          refl
    ]

pub record_in-IsTooLong : (file : List ℕ) (order : Endianness) (at : ℕ) → IsTooLong file order at →
    record_in file order at ≡ refused (BadRecord at)
unfolding record_in
record_in-IsTooLong file order at long =
    rw (
      le-ltb (length file)
          (at + 16) long.0,
      lt-ltb 262144 (captured file order at).len long.1,
    ) refl

record_in-head : (file : List ℕ) (order : Endianness) (at : ℕ) →
    IsRecord file order at (captured file order at) →
    record_in file order at ≡ got (captured file order at)
unfolding record_in
record_in-head file order at whole =
    let head : at + 16 ≤ length file = omega (arith, whole.whole) in
    rw (
      le-ltb (length file) (at + 16) head,
      le-ltb 262144 (captured file order at).len whole.limit,
      le-ltb (length file) (behind (captured file order at)) whole.whole,
    )
    refl

pub record_in-IsRecord : (file : List ℕ) (order : Endianness) (at : ℕ) (c : Captured) →
    IsRecord file order at c → record_in file order at ≡ got c
record_in-IsRecord file order at c whole =
    let P : Captured → Type 0 = λ d. IsRecord file order at d → record_in file order at ≡ got d in
    subst P (sym whole.head) (record_in-head file order at) whole

-- which of the three it is
abbrev Whole : List ℕ → Endianness → ℕ → Type 0
Whole file order at = IsRecord file order at (captured file order at)

pub cases_at : (file : List ℕ) (order : Endianness) (at : ℕ) →
    Whole file order at ⊎ (IsTail file order at ⊎ IsTooLong file order at)
cases_at file order at =
    elim (cases_lt (length file) (at + 16)) [
      | inl no_head ↦ inr (inl (inl no_head))
      | inr head ↦ elim (cases_lt 262144 (captured file order at).len) [
        | inl long ↦ inr (inr (head, long))
        | inr limit ↦ elim (cases_lt (length file) (behind (captured file order at))) [
          | inl cut ↦ inr (inl (inr (limit, cut)))
          | inr whole ↦ inl (record { head = refl; limit = limit; whole = whole })
        ]
      ]
    ]

-- and the same, from what reading there gives
pub IsRecord-got : (file : List ℕ) (order : Endianness) (at : ℕ) (c : Captured) →
    record_in file order at ≡ got c → IsRecord file order at c
IsRecord-got file order at c is =
    elim (cases_at file order at) [
      | inl whole ↦ subst (λ (d : Captured). IsRecord file order at d)
          (got_same _ _ (sym (record_in-head file order at whole) ∙ is)) whole
      | inr others ↦ elim others [
        | inl tail ↦ got_not_nothing c (sym is ∙ record_in-IsTail file order at tail)
        | inr long ↦ got_not_refused c (BadRecord at) (sym is
            ∙ record_in-IsTooLong file order at long)
      ]
    ]

pub IsTail-nothing : (file : List ℕ) (order : Endianness) (at : ℕ) →
    record_in file order at ≡ nothing → IsTail file order at
IsTail-nothing file order at is =
    elim (cases_at file order at) [
      | inl whole ↦ got_not_nothing (captured file order at)
          (sym (record_in-head file order at whole) ∙ is)
      | inr others ↦ elim others [
        | inl tail ↦ tail
        | inr long ↦ nothing_not_refused (BadRecord at) (sym is
            ∙ record_in-IsTooLong file order at long)
      ]
    ]

pub IsTooLong-refused : (file : List ℕ) (order : Endianness) (at : ℕ) (e : CaptureError) →
    record_in file order at ≡ refused e → IsTooLong file order at × (e ≡ BadRecord at)
IsTooLong-refused file order at e is =
    elim (cases_at file order at) [
      | inl whole ↦ got_not_refused (captured file order at) e (sym (record_in-head file order at whole) ∙ is)
      | inr others ↦ elim others [
        | inl tail ↦ nothing_not_refused e (sym (record_in-IsTail file order at tail) ∙ is)
        | inr long ↦ (
          long,
          refused_same e (BadRecord at) (sym is
              ∙ record_in-IsTooLong file order at long),
        )
      ]
    ]

pub record_in-too_long : (file : List ℕ) (order : Endianness) (at : ℕ) (e : CaptureError) →
    IsTooLong file order at × (e ≡ BadRecord at) → record_in file order at ≡ refused e
record_in-too_long file order at e (long, is) = record_in-IsTooLong file order at long
    ∙ ap refused (sym is)
