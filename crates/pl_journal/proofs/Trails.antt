-- In a run with good trails, the leg of each frame is good at every moment.
use Rattle.std.proofs.Common.{◌≡◌, ℕ, Bool, true, false, ◌==◌, ◌&&◌, List, [], ◌∷◌, refl, sym, ap, ◌∙◌, subst, inl, inr}
use Rattle.std.proofs.lemmas.Bool.{eqb-true, and_parts, and_from, cases_Bool, cond_both}
use Rattle.pl_wiring.specs.Plan.{Plan}
use Rattle.pl_journal.specs.declared.entry.Entry.{Entry}
use Rattle.pl_journal.specs.declared.entry.Entry.TheVariants.{Sent, Made, Copied, Crossed, Redirected}
use Rattle.pl_journal.specs.Places.{is_adjacent}
use Rattle.pl_journal.specs.Flights.{are_adjacent, are_different, before_copy, is_good_leg, is_led_to, leg, was_live}
use Rattle.pl_journal.specs.Causes.{goes_to_group}
use Rattle.pl_journal.specs.Lossy.{GoodTrailTo, RunTo, goes_well}
use Rattle.pl_journal.proofs.Numbered.{next_is_new}
use Rattle.pl_journal.proofs.Unbegun.{flight_before}

-- a good leg, whose neighbours are linked
abbrev pub is_good : Plan → Bool → List ℕ → Bool
is_good plan to_group switches = is_good_leg to_group plan.k switches && are_adjacent plan switches

adjacent_more : (plan : Plan) (past : List Entry) (id s : ℕ) (switches : List ℕ) → is_led_to plan past id switches s ≡ true → are_adjacent plan switches ≡ true →
    are_adjacent plan (s ∷ switches) ≡ true
adjacent_more plan past id s [] led before = refl
adjacent_more plan past id s (t ∷ switches) led before =
    and_from (is_adjacent plan t s) (are_adjacent plan (t ∷ switches)) (and_parts (is_adjacent plan t s) (was_live past id t s) led).0 before

good_more : (plan : Plan) (past : List Entry) (id s : ℕ) (switches : List ℕ) → goes_well plan past id switches s ≡ true →
    is_good plan (goes_to_group past id) switches ≡ true → is_good plan (goes_to_group past id) (s ∷ switches) ≡ true
good_more plan past id s switches well before =
    let group : Bool = goes_to_group past id in
    let parts = and_parts (is_good_leg group plan.k (s ∷ switches)) (is_led_to plan past id switches s) well in
    let old = and_parts (is_good_leg group plan.k switches) (are_adjacent plan switches) before in
    and_from (is_good_leg group plan.k (s ∷ switches)) (are_adjacent plan (s ∷ switches)) parts.0 (adjacent_more plan past id s switches parts.1 old.1)

-- a frame that begins now has an empty leg
empty_is_good : (plan : Plan) (to_group : Bool) → is_good plan to_group [] ≡ true
empty_is_good plan true = refl
empty_is_good plan false = refl

good_at_first : (plan : Plan) (past : List Entry) (to_group : Bool) (id : ℕ) → leg past id ≡ [] → is_good plan to_group (leg past id) ≡ true
good_at_first plan past to_group id e = subst (λ switches. is_good plan to_group switches ≡ true) (sym e) (empty_is_good plan to_group)

pub good_leg : (plan : Plan) (past : List Entry) (id : ℕ) → RunTo plan past → GoodTrailTo plan past → is_good plan (goes_to_group past id) (leg past id) ≡ true
good_leg plan [] id run trail = empty_is_good plan (goes_to_group [] id)
good_leg plan (Sent g h f ∷ past) id run trail = elim (cases_Bool (g == id)) [
  | inl same ↦
      let e : g ≡ id = eqb-true g id same in
      let empty = ap (λ w. w.leg) (flight_before plan past g run.0 (next_is_new plan past g run.0 run.1)) in
      good_at_first plan past (goes_to_group (Sent g h f ∷ past) id) id (ap (leg past) (sym e) ∙ empty)
  | inr other ↦ rw other (good_leg plan past id run.0 trail.0)
]
good_leg plan (Made g s f ∷ past) id run trail = elim (cases_Bool (g == id)) [
  | inl same ↦
      let e : g ≡ id = eqb-true g id same in
      let empty = ap (λ w. w.leg) (flight_before plan past g run.0 (next_is_new plan past g run.0 run.1)) in
      good_at_first plan past (goes_to_group (Made g s f ∷ past) id) id (ap (leg past) (sym e) ∙ empty)
  | inr other ↦ rw other (good_leg plan past id run.0 trail.0)
]
good_leg plan (Copied g c ∷ past) id run trail = good_leg plan past (before_copy g c id) run.0 trail.0
good_leg plan (Crossed g s ∷ past) id run trail =
    let before = good_leg plan past id run.0 trail.0 in
    cond_both (g == id) (s.0 ∷ leg past id) (leg past id) (λ switches. is_good plan (goes_to_group past id) switches ≡ true)
    (λ same. crossed same before)
    (λ other. before)
  where
    crossed : (g == id) ≡ true → is_good plan (goes_to_group past id) (leg past id) ≡ true → is_good plan (goes_to_group past id) (s.0 ∷ leg past id) ≡ true
    crossed same before =
        let well : goes_well plan past id (leg past id) s.0 ≡ true = subst (λ n. goes_well plan past n (leg past n) s.0 ≡ true) (eqb-true g id same) trail.1 in
        good_more plan past id s.0 (leg past id) well before
good_leg plan (Redirected g old new ∷ past) id run trail =
    cond_both (g == id) [] (leg past id) (λ switches. is_good plan (goes_to_group past id) switches ≡ true)
    (λ same. empty_is_good plan (goes_to_group past id))
    (λ other. good_leg plan past id run.0 trail.0)
good_leg plan (entry ∷ past) id run trail = good_leg plan past id run.0 trail.0
