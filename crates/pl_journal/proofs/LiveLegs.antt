-- The links of a leg were live from crossing to crossing.
use Rattle.std.proofs.Common.{◌≡◌, ℕ, true, false, not, ◌==◌, List, [], ◌∷◌, ◌++◌, sym, ap, ◌∙◌, subst, inl, inr}
use Rattle.std.proofs.lemmas.Bool.{false≢true, eqb-true, and_parts, cases_Bool, cond-true, cond-false, both_ways}
use Rattle.pl_wiring.specs.declared.label.SwitchNo.{SwitchNo}
use Rattle.pl_wiring.specs.Plan.{Plan}
use Rattle.pl_journal.specs.declared.entry.Entry.{Entry}
use Rattle.pl_journal.specs.declared.entry.Entry.TheVariants.{Sent, Made, Copied, Crossed, LinkDown}
use Rattle.pl_journal.specs.Places.{is_failed, is_adjacent, same_ends}
use Rattle.pl_journal.specs.Flights.{before_copy, is_empty, is_good_leg, is_led_to, leg, trail, was_live}
use Rattle.pl_journal.specs.Causes.{goes_to_group, has_crossed}
use Rattle.pl_journal.specs.Lossy.{CrossesWell, GoodTrailTo, RunTo, goes_well}
use Rattle.pl_journal.proofs.Links.{live_is_not_failed}
use Rattle.pl_journal.proofs.Numbered.{next_is_new}
use Rattle.pl_journal.proofs.Unbegun.{live_before}

-- a link that was live until now was not failed before, where the frame has crossed nothing since
not_failed_before : (plan : Plan) (since past : List Entry) (id a b : ℕ) → RunTo plan (since ++ past) → has_crossed since id ≡ false →
    was_live (since ++ past) id a b ≡ true → is_failed past a b ≡ false
not_failed_before plan [] past id a b run none live = live_is_not_failed past id a b live
not_failed_before plan (Sent g h f ∷ since) past id a b run none live = elim (cases_Bool (g == id)) [
  | inl same ↦ absurd (both_ways (was_live (since ++ past) id a b) (not_yet (eqb-true g id same)) live)
  | inr other ↦ not_failed_before plan since past id a b run.0 none live
]
  where
    not_yet : g ≡ id → was_live (since ++ past) id a b ≡ false
    not_yet same = subst (λ n. was_live (since ++ past) n a b ≡ false) same (live_before plan (since ++ past) g a b run.0 (next_is_new plan (since ++ past) g run.0 run.1))
not_failed_before plan (Made g s f ∷ since) past id a b run none live = elim (cases_Bool (g == id)) [
  | inl same ↦ absurd (both_ways (was_live (since ++ past) id a b) (not_yet (eqb-true g id same)) live)
  | inr other ↦ not_failed_before plan since past id a b run.0 none live
]
  where
    not_yet : g ≡ id → was_live (since ++ past) id a b ≡ false
    not_yet same = subst (λ n. was_live (since ++ past) n a b ≡ false) same (live_before plan (since ++ past) g a b run.0 (next_is_new plan (since ++ past) g run.0 run.1))
not_failed_before plan (Copied g c ∷ since) past id a b run none live = not_failed_before plan since past (before_copy g c id) a b run.0 none live
not_failed_before plan (Crossed g s ∷ since) past id a b run none live = elim (cases_Bool (g == id)) [
  | inl same ↦ absurd (false≢true (sym none ∙ crosses same))
  | inr other ↦ not_failed_before plan since past id a b run.0 (rw other at none) (rw other at live)
]
  where
    crosses : (g == id) ≡ true → has_crossed (Crossed g s ∷ since) id ≡ true
    crosses same = ap (λ switches. not (is_empty switches)) (cond-true (g == id) (s.0 ∷ trail since id) (trail since id) same)
not_failed_before plan (LinkDown x y ∷ since) past id a b run none live = elim (cases_Bool (same_ends x.0 y.0 a b)) [
  | inl same ↦ absurd (false≢true (sym (cond-true (same_ends x.0 y.0 a b) false (was_live (since ++ past) id a b) same) ∙ live))
  | inr other ↦
      not_failed_before plan since past id a b run.0 none (sym (cond-false (same_ends x.0 y.0 a b) false (was_live (since ++ past) id a b) other) ∙ live)
]
not_failed_before plan (entry ∷ since) past id a b run none live = not_failed_before plan since past id a b run.0 none live

crossed_well : (plan : Plan) (newer : List Entry) (entry : Entry) (past : List Entry) → GoodTrailTo plan (newer ++ entry ∷ past) → CrossesWell plan past entry
crossed_well plan [] entry past good = good.1
crossed_well plan (e ∷ newer) entry past good = crossed_well plan newer entry past good.0

past_run : (plan : Plan) (newer : List Entry) (entry : Entry) (past : List Entry) → RunTo plan (newer ++ entry ∷ past) → RunTo plan past
past_run plan [] entry past run = run.0
past_run plan (e ∷ newer) entry past run = past_run plan newer entry past run.0

-- where a frame crossed one more switch, it was led there
led : (plan : Plan) (newer past : List Entry) (id last : ℕ) (next : SwitchNo) (earlier : List ℕ) → GoodTrailTo plan (newer ++ Crossed id next ∷ past) →
    leg past id ≡ last ∷ earlier → (is_adjacent plan last next.0 ≡ true) × (was_live past id last next.0 ≡ true)
led plan newer past id last next earlier good is =
    let well : goes_well plan past id (leg past id) next.0 ≡ true = crossed_well plan newer (Crossed id next) past good in
    let here : goes_well plan past id (last ∷ earlier) next.0 ≡ true = subst (λ switches. goes_well plan past id switches next.0 ≡ true) is well in
    let parts = and_parts (is_good_leg (goes_to_group past id) plan.k (next.0 ∷ last ∷ earlier)) (is_led_to plan past id (last ∷ earlier) next.0) here in
    and_parts (is_adjacent plan last next.0) (was_live past id last next.0) parts.1

pub leg_adjacent : (plan : Plan) (newer past : List Entry) (id last : ℕ) (next : SwitchNo) (earlier : List ℕ) → GoodTrailTo plan (newer ++ Crossed id next ∷ past) →
    leg past id ≡ last ∷ earlier → is_adjacent plan last next.0 ≡ true
leg_adjacent plan newer past id last next earlier good is = (led plan newer past id last next earlier good is).0

pub leg_live : (plan : Plan) (newer since past : List Entry) (id last : ℕ) (next : SwitchNo) (earlier : List ℕ) →
    RunTo plan (newer ++ Crossed id next ∷ (since ++ past)) → GoodTrailTo plan (newer ++ Crossed id next ∷ (since ++ past)) →
    leg (since ++ past) id ≡ last ∷ earlier → has_crossed since id ≡ false → is_failed past last next.0 ≡ false
leg_live plan newer since past id last next earlier run good is none =
    let live = (led plan newer (since ++ past) id last next earlier good is).1 in
    not_failed_before plan since past id last next.0 (past_run plan newer (Crossed id next) (since ++ past) run) none live
