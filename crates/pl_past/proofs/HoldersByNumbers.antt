-- Whom a frame is for is told by one number and by who held its address since when.
use Rattle.std.proofs.Common.{◌≡◌, ℕ, suc, ◌+◌, ◌≤◌, ◌<◌, ◌&&◌, ◌||◌, Bool, true, false, cond, not, ◌==◌, nat_le, List, [], ◌∷◌, length, Option, Some, None, refl, sym, ◌∙◌, inl, inr, arith}
use Rattle.std.proofs.lemmas.Bool.{cases_Bool, cond-false, cond-true, cond_both, le-leb, leb-true}
use Rattle.pl_pmac.specs.Pmac.{pmac_number}
use Rattle.pl_journal.specs.declared.entry.Entry.{Entry}
use Rattle.pl_journal.specs.declared.entry.Entry.TheVariants.{Copied, Crossed, Freed, Granted}
use Rattle.pl_journal.specs.Places.{holder, is_live, live_holder}
use Rattle.pl_journal.specs.Flights.{before_copy, has_just_crossed, held_at_crossing}
use Rattle.pl_past.specs.Addressees.{Tenure, asked_at, held_as_of, tenures}

-- what is asked of has a number of the past
asked_within : (past : List Entry) (id : ℕ) → asked_at past id ≤ length past
asked_within [] id = omega arith
asked_within (Crossed g s ∷ past) id =
    let before = asked_within past id in
    cond_both (g == id) (length past + 1) (asked_at past id) (λ n. n ≤ suc (length past)) (λ h. omega arith) (λ h. omega arith)
asked_within (Granted y h e p ∷ past) id =
    let before = asked_within past id in
    cond_both (has_just_crossed past id) (length past + 1) (asked_at past id) (λ n. n ≤ suc (length past)) (λ h. omega arith) (λ h. omega arith)
asked_within (Copied g c ∷ past) id = let before = asked_within past (before_copy g c id) in omega arith
asked_within (entry ∷ past) id = let before = asked_within past id in omega arith

more_than : (m n : ℕ) → n < m → nat_le m n ≡ false
more_than m n h = elim (cases_Bool (nat_le m n)) [
  | inl is ↦ let e : m ≤ n = leb-true m n is in absurd (omega arith)
  | inr it ↦ it
]

-- an entry that begins no new tenure of the address changes nothing, and one that does changes nothing of what was before it
module _ (t : Bool) (new : Tenure) (old : List Tenure) (n : ℕ) where
  newer_aside : n < new.since → held_as_of n (cond t (new ∷ old) old) ≡ held_as_of n old
  newer_aside late = by t
    where
      by : (b : Bool) → held_as_of n (cond b (new ∷ old) old) ≡ held_as_of n old
      by true = cond-false (nat_le new.since n) new.host (held_as_of n old) (more_than new.since n late)
      by false = refl

  newest_counts : new.since ≤ n → held_as_of n (cond t (new ∷ old) old) ≡ cond t new.host (held_as_of n old)
  newest_counts there = by t
    where
      by : (b : Bool) → held_as_of n (cond b (new ∷ old) old) ≡ cond b new.host (held_as_of n old)
      by true = cond-true (nat_le new.since n) new.host (held_as_of n old) (le-leb new.since n there)
      by false = refl

-- who holds a live address now is the newest
pub held_now : (past : List Entry) (x n : ℕ) → length past ≤ n → live_holder past x ≡ held_as_of n (tenures past x)
held_now [] x n most = refl
held_now (Granted y h e p ∷ past) x n most =
    let before = held_now past x n (omega arith) in
    let new : Tenure = record { since = length past + 1; host = Some h.0 } in
    granted (pmac_number y == x) (is_live past x) (Some h.0) (holder past x) (held_as_of n (tenures past x)) before
    ∙ sym (newest_counts (pmac_number y == x) new (tenures past x) n (omega arith))
  where
    granted : (t live : Bool) (now before then : Option ℕ) → cond live before None ≡ then →
        cond (t || live) (cond t now before) None ≡ cond t now then
    granted true live now before then is = refl
    granted false live now before then is = is
held_now (Freed y ∷ past) x n most =
    let before = held_now past x n (omega arith) in
    let new : Tenure = record { since = length past + 1; host = None } in
    freed (pmac_number y == x) (is_live past x) (holder past x) (held_as_of n (tenures past x)) before
    ∙ sym (newest_counts (pmac_number y == x) new (tenures past x) n (omega arith))
  where
    freed : (t live : Bool) (before then : Option ℕ) → cond live before None ≡ then → cond (not t && live) before None ≡ cond t None then
    freed true live before then is = refl
    freed false live before then is = is
held_now (entry ∷ past) x n most = held_now past x n (omega arith)

-- and who held it when the frame crossed its last switch is the newest as of then
pub held_by_numbers : (past : List Entry) (id x : ℕ) → held_at_crossing past id x ≡ held_as_of (asked_at past id) (tenures past x)
held_by_numbers [] id x = refl
held_by_numbers (Crossed g s ∷ past) id x =
    here (g == id) (held_now past x (length past + 1) (omega arith)) (held_by_numbers past id x)
  where
    here : (t : Bool) → live_holder past x ≡ held_as_of (length past + 1) (tenures past x) → held_at_crossing past id x ≡ held_as_of (asked_at past id) (tenures past x) →
        cond t (live_holder past x) (held_at_crossing past id x) ≡ held_as_of (cond t (length past + 1) (asked_at past id)) (tenures past x)
    here true now before = now
    here false now before = before
held_by_numbers (Granted y h e p ∷ past) id x =
    let within = asked_within past id in
    let new : Tenure = record { since = length past + 1; host = Some h.0 } in
    here (has_just_crossed past id) (held_now (Granted y h e p ∷ past) x (length past + 1) (omega arith))
    (held_by_numbers past id x ∙ sym (newer_aside (pmac_number y == x) new (tenures past x) (asked_at past id) (omega arith)))
  where
    here : (t : Bool) → live_holder (Granted y h e p ∷ past) x ≡ held_as_of (length past + 1) (tenures (Granted y h e p ∷ past) x) →
        held_at_crossing past id x ≡ held_as_of (asked_at past id) (tenures (Granted y h e p ∷ past) x) →
        cond t (live_holder (Granted y h e p ∷ past) x) (held_at_crossing past id x)
        ≡ held_as_of (cond t (length past + 1) (asked_at past id)) (tenures (Granted y h e p ∷ past) x)
    here true now before = now
    here false now before = before
held_by_numbers (Freed y ∷ past) id x =
    let within = asked_within past id in
    let new : Tenure = record { since = length past + 1; host = None } in
    held_by_numbers past id x ∙ sym (newer_aside (pmac_number y == x) new (tenures past x) (asked_at past id) (omega arith))
held_by_numbers (Copied g c ∷ past) id x = held_by_numbers past (before_copy g c id) x
held_by_numbers (entry ∷ past) id x = held_by_numbers past id x
