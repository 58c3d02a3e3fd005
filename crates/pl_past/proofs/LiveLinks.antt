-- Two numbers tell whether a link was live since a frame's last crossing.
use Rattle.std.proofs.Common.{◌≡◌, ℕ, suc, ◌+◌, ◌≤◌, ◌<◌, Bool, true, false, cond, not, ◌==◌, nat_lt, List, [], ◌∷◌, length, Option, Some, None, is_some, refl, sym, ◌∙◌, inl, inr, arith}
use Rattle.std.proofs.lemmas.Bool.{cases_Bool, cond_both, lt-ltb, ltb-true}
use Rattle.pl_journal.specs.declared.entry.Entry.{Entry}
use Rattle.pl_journal.specs.declared.entry.Entry.TheVariants.{Copied, Crossed, LinkDown, LinkUp}
use Rattle.pl_journal.specs.Places.{is_failed, same_ends}
use Rattle.pl_journal.specs.Flights.{before_copy, was_live}
use Rattle.pl_past.specs.Links.{crossed_at, is_live_since, live_since, repaired, was_live_by_numbers}

-- a crossing has a number of the past
pub crossed_within : (past : List Entry) (id : ℕ) → crossed_at past id ≤ length past
crossed_within [] id = omega arith
crossed_within (Crossed g s ∷ past) id =
    let before = crossed_within past id in
    cond_both (g == id) (length past + 1) (crossed_at past id) (λ n. n ≤ suc (length past)) (λ h. omega arith) (λ h. omega arith)
crossed_within (Copied g c ∷ past) id = let before = crossed_within past (before_copy g c id) in omega arith
crossed_within (entry ∷ past) id = let before = crossed_within past id in omega arith

-- so has the repair
abbrev IsWithin : ℕ → Option ℕ → Type 0
IsWithin n None = Unit {0}
IsWithin n (Some m) = m ≤ n

further : (n : ℕ) (o : Option ℕ) → IsWithin n o → IsWithin (suc n) o
further n None within = within
further n (Some m) within = omega arith

new_repair : (n : ℕ) (o : Option ℕ) → IsWithin n o → IsWithin (suc n) (repaired (n + 1) o)
new_repair n None within = omega arith
new_repair n (Some m) within = omega arith

live_within : (past : List Entry) (a b : ℕ) → IsWithin (length past) (live_since past a b)
live_within [] a b = omega arith
live_within (LinkDown x y ∷ past) a b =
    cond_both (same_ends x.0 y.0 a b) None (live_since past a b) (IsWithin (suc (length past))) (λ h. record {}) (λ h. further (length past) (live_since past a b) (live_within past a b))
live_within (LinkUp x y ∷ past) a b =
    cond_both (same_ends x.0 y.0 a b) (repaired (length past + 1) (live_since past a b)) (live_since past a b) (IsWithin (suc (length past)))
    (λ h. new_repair (length past) (live_since past a b) (live_within past a b)) (λ h. further (length past) (live_since past a b) (live_within past a b))
live_within (entry ∷ past) a b = further (length past) (live_since past a b) (live_within past a b)

-- a link is failed where it has no number
pub failed_by_number : (past : List Entry) (a b : ℕ) → not (is_failed past a b) ≡ is_some (live_since past a b)
failed_by_number [] a b = refl
failed_by_number (LinkDown x y ∷ past) a b = down (same_ends x.0 y.0 a b) (is_failed past a b) (live_since past a b) (failed_by_number past a b)
  where
    down : (t f : Bool) (o : Option ℕ) → not f ≡ is_some o → not (cond t true f) ≡ is_some (cond t None o)
    down true f o h = refl
    down false f o h = h
failed_by_number (LinkUp x y ∷ past) a b = up (same_ends x.0 y.0 a b) (is_failed past a b) (length past + 1) (live_since past a b) (failed_by_number past a b)
  where
    some : (n : ℕ) (o : Option ℕ) → true ≡ is_some (repaired n o)
    some n None = refl
    some n (Some m) = refl

    up : (t f : Bool) (n : ℕ) (o : Option ℕ) → not f ≡ is_some o → not (cond t false f) ≡ is_some (cond t (repaired n o) o)
    up true f n o h = some n o
    up false f n o h = h
failed_by_number (entry ∷ past) a b = failed_by_number past a b

pub less : (m n : ℕ) → m < n → nat_lt m n ≡ true
less m n h = lt-ltb m n h

pub not_less : (m n : ℕ) → n ≤ m → nat_lt m n ≡ false
not_less m n h = elim (cases_Bool (nat_lt m n)) [
  | inl is ↦ let e : m < n = ltb-true m n is in absurd (omega arith)
  | inr it ↦ it
]

-- at a crossing, with a number above all of the past
live_now : (n : ℕ) (o : Option ℕ) → IsWithin n o → is_some o ≡ is_live_since o (n + 1)
live_now n None within = refl
live_now n (Some m) within = sym (less m (n + 1) (omega arith))

-- a repair comes after each crossing of the past
repaired_late : (n c : ℕ) (o : Option ℕ) → c ≤ n → is_live_since (repaired (n + 1) o) c ≡ is_live_since o c
repaired_late n c None h = not_less (n + 1) c (omega arith)
repaired_late n c (Some m) h = refl

pub live_by_numbers : (past : List Entry) (id a b : ℕ) → was_live past id a b ≡ was_live_by_numbers past id a b
live_by_numbers [] id a b = refl
live_by_numbers (Crossed g s ∷ past) id a b =
    here (g == id) (not (is_failed past a b)) (was_live past id a b) (length past + 1) (crossed_at past id) (live_since past a b)
    (failed_by_number past a b ∙ live_now (length past) (live_since past a b) (live_within past a b)) (live_by_numbers past id a b)
  where
    here : (t now before : Bool) (n c : ℕ) (o : Option ℕ) → now ≡ is_live_since o n → before ≡ is_live_since o c → cond t now before ≡ is_live_since o (cond t n c)
    here true now before n c o h k = h
    here false now before n c o h k = k
live_by_numbers (LinkDown x y ∷ past) id a b =
    down (same_ends x.0 y.0 a b) (was_live past id a b) (crossed_at past id) (live_since past a b) (live_by_numbers past id a b)
  where
    down : (t before : Bool) (c : ℕ) (o : Option ℕ) → before ≡ is_live_since o c → cond t false before ≡ is_live_since (cond t None o) c
    down true before c o h = refl
    down false before c o h = h
live_by_numbers (LinkUp x y ∷ past) id a b =
    up (same_ends x.0 y.0 a b) (was_live past id a b) (crossed_at past id) (live_since past a b) (repaired (length past + 1) (live_since past a b))
    (repaired_late (length past) (crossed_at past id) (live_since past a b) (crossed_within past id)) (live_by_numbers past id a b)
  where
    up : (t before : Bool) (c : ℕ) (o r : Option ℕ) → is_live_since r c ≡ is_live_since o c → before ≡ is_live_since o c → before ≡ is_live_since (cond t r o) c
    up true before c o r late h = h ∙ sym late
    up false before c o r late h = h
live_by_numbers (Copied g c ∷ past) id a b = live_by_numbers past (before_copy g c id) a b
live_by_numbers (entry ∷ past) id a b = live_by_numbers past id a b
