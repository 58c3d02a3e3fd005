-- Links: failed, repaired, live.
use Rattle.std.proofs.Common.{◌≡◌, ℕ, Bool, true, false, not, cond, ◌==◌, ◌&&◌, ◌||◌, List, [], ◌∷◌, refl, sym, ap₂, ◌∙◌, inl, inr}
use Rattle.std.specs.List.{list_any}
use Rattle.std.proofs.lemmas.Bool.{false≢true, eqb-true, eq-eqb, and_parts, and_from, or_cases, or_left, cases_Bool, cond-true, cond-false, not-true}
use Rattle.pl_wiring.specs.declared.label.SwitchNo.{SwitchNo}
use Rattle.pl_wiring.specs.declared.link.Link.{Link}
use Rattle.pl_wiring.specs.Plan.{Plan}
use Rattle.pl_journal.specs.declared.entry.Entry.{Entry}
use Rattle.pl_journal.specs.declared.entry.Entry.TheVariants.{Copied, Crossed, LinkDown, LinkUp}
use Rattle.pl_journal.specs.Places.{is_failed, is_adjacent, same_ends}
use Rattle.pl_journal.specs.Flights.{before_copy, was_live}
use Rattle.pl_journal.specs.Lossy.{RunTo}

same_ends_itself : (x y : ℕ) → same_ends x y x y ≡ true
same_ends_itself x y = or_left ((x == x) && (y == y)) ((x == y) && (y == x)) (and_from (x == x) (y == y) (eq-eqb x x refl) (eq-eqb y y refl))

pub failed_now : (past : List Entry) (x y : SwitchNo) → is_failed (LinkDown x y ∷ past) x.0 y.0 ≡ true
failed_now past x y = cond-true (same_ends x.0 y.0 x.0 y.0) true (is_failed past x.0 y.0) (same_ends_itself x.0 y.0)

pub repaired_now : (past : List Entry) (x y : SwitchNo) → is_failed (LinkUp x y ∷ past) x.0 y.0 ≡ false
repaired_now past x y = cond-true (same_ends x.0 y.0 x.0 y.0) false (is_failed past x.0 y.0) (same_ends_itself x.0 y.0)

or_swap : (s t : Bool) → (s || t) ≡ (t || s)
or_swap true true = refl
or_swap true false = refl
or_swap false true = refl
or_swap false false = refl

same_ends-swap : (x y a b : ℕ) → same_ends x y a b ≡ same_ends x y b a
same_ends-swap x y a b = or_swap ((x == a) && (y == b)) ((x == b) && (y == a))

pub failed_either_way : (past : List Entry) (a b : ℕ) → is_failed past a b ≡ is_failed past b a
failed_either_way [] a b = refl
failed_either_way (LinkDown x y ∷ past) a b = ap₂ (λ s t. cond s true t) (same_ends-swap x.0 y.0 a b) (failed_either_way past a b)
failed_either_way (LinkUp x y ∷ past) a b = ap₂ (λ s t. cond s false t) (same_ends-swap x.0 y.0 a b) (failed_either_way past a b)
failed_either_way (entry ∷ past) a b = failed_either_way past a b

any_either_way : (links : List Link) (a b : ℕ) → list_any (λ l. same_ends l.lower.0 l.upper.0 a b) links ≡ list_any (λ l. same_ends l.lower.0 l.upper.0 b a) links
any_either_way [] a b = refl
any_either_way (l ∷ links) a b = ap₂ (λ s t. s || t) (same_ends-swap l.lower.0 l.upper.0 a b) (any_either_way links a b)

-- the link between these ends, in either order
adjacent_ends : (plan : Plan) (x y a b : ℕ) → same_ends x y a b ≡ true → is_adjacent plan x y ≡ true → is_adjacent plan a b ≡ true
adjacent_ends plan x y a b same adjacent = elim (or_cases ((x == a) && (y == b)) ((x == b) && (y == a)) same) [
  | inl straight ↦ let parts = and_parts (x == a) (y == b) straight in sym (ap₂ (is_adjacent plan) (eqb-true x a parts.0) (eqb-true y b parts.1)) ∙ adjacent
  | inr crossed ↦
      let parts = and_parts (x == b) (y == a) crossed in
      any_either_way plan.links a b ∙ sym (ap₂ (is_adjacent plan) (eqb-true x b parts.0) (eqb-true y a parts.1)) ∙ adjacent
]

pub failed_is_adjacent : (plan : Plan) (past : List Entry) (a b : ℕ) → RunTo plan past → is_failed past a b ≡ true → is_adjacent plan a b ≡ true
failed_is_adjacent plan [] a b run failed = absurd (false≢true failed)
failed_is_adjacent plan (LinkDown x y ∷ past) a b run failed = elim (cases_Bool (same_ends x.0 y.0 a b)) [
  | inl same ↦ adjacent_ends plan x.0 y.0 a b same run.1.adjacent
  | inr other ↦ failed_is_adjacent plan past a b run.0 (sym (cond-false (same_ends x.0 y.0 a b) true (is_failed past a b) other) ∙ failed)
]
failed_is_adjacent plan (LinkUp x y ∷ past) a b run failed = elim (cases_Bool (same_ends x.0 y.0 a b)) [
  | inl same ↦ absurd (false≢true (sym (cond-true (same_ends x.0 y.0 a b) false (is_failed past a b) same) ∙ failed))
  | inr other ↦ failed_is_adjacent plan past a b run.0 (sym (cond-false (same_ends x.0 y.0 a b) false (is_failed past a b) other) ∙ failed)
]
failed_is_adjacent plan (entry ∷ past) a b run failed = failed_is_adjacent plan past a b run.0 failed

pub live_is_not_failed : (past : List Entry) (id a b : ℕ) → was_live past id a b ≡ true → is_failed past a b ≡ false
live_is_not_failed [] id a b live = refl
live_is_not_failed (Crossed g s ∷ past) id a b live = elim (cases_Bool (g == id)) [
  | inl same ↦ not-true (is_failed past a b) (sym (cond-true (g == id) (not (is_failed past a b)) (was_live past id a b) same) ∙ live)
  | inr other ↦ live_is_not_failed past id a b (sym (cond-false (g == id) (not (is_failed past a b)) (was_live past id a b) other) ∙ live)
]
live_is_not_failed (LinkDown x y ∷ past) id a b live = elim (cases_Bool (same_ends x.0 y.0 a b)) [
  | inl same ↦ absurd (false≢true (sym (cond-true (same_ends x.0 y.0 a b) false (was_live past id a b) same) ∙ live))
  | inr other ↦
      cond-false (same_ends x.0 y.0 a b) true (is_failed past a b) other
      ∙ live_is_not_failed past id a b (sym (cond-false (same_ends x.0 y.0 a b) false (was_live past id a b) other) ∙ live)
]
live_is_not_failed (LinkUp x y ∷ past) id a b live = none_if_not (same_ends x.0 y.0 a b) (is_failed past a b) (live_is_not_failed past id a b live)
  where
    none_if_not : (s t : Bool) → t ≡ false → cond s false t ≡ false
    none_if_not true t h = refl
    none_if_not false t h = h
live_is_not_failed (Copied g c ∷ past) id a b live = live_is_not_failed past (before_copy g c id) a b live
live_is_not_failed (entry ∷ past) id a b live = live_is_not_failed past id a b live
