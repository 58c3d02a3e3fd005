-- That a trap stands is told in reports alone: so the manager releases addresses only while each trap that stands was reported.
use Rattle.std.proofs.Common.{◌≡◌, ◌||◌, not, ℕ, ◌==◌, true, false, List, [], ◌∷◌, ◌++◌, Some, slice_get, refl, sym, ap, subst, ◌∙◌, inl, inr, eq-eqb}
use Rattle.std.specs.List.{AllByRecursion, list_any}
use Rattle.std.proofs.lemmas.Bool.{and_parts, cases_Bool, cases_eq, cond-false, cond-true, false≢true}
use Rattle.pl_frame.specs.declared.address.SwitchId.{SwitchId}
use Rattle.pl_layouts.specs.Equality.{same_switch}
use Rattle.pl_wiring.specs.Plan.{IsPlan, Plan}
use Rattle.pl_gathering.specs.Gathering.{Gathered, Report, hears, is_among, is_whole, words}
use Rattle.pl_gathering.specs.Gathering.Report.{Begin, End, Tells}
use Rattle.pl_gathering.specs.Orderly.{IsOrderly, will_end}
use Rattle.pl_node.specs.declared.messages.ToManager.{ToManager}
use Rattle.pl_node.specs.declared.messages.ToManager.TheVariants as tell
use Rattle.pl_node.specs.declared.messages.ToSwitch.{ToSwitch}
use Rattle.pl_node.specs.declared.messages.ToSwitch.TheVariants as say
use Rattle.pl_node.specs.SwitchInputs.{SwitchInput}
use Rattle.pl_node.specs.SwitchInputs.SwitchInput.{Comes, Says, Tick}
use Rattle.pl_node.specs.SwitchViews.{SwitchView}
use Rattle.pl_manager_rule.specs.Treating.{Treating, as_report, waits_for_places}
use Rattle.pl_manager_rule.specs.WholeRule.{gathered, viewed, whole_rule}
use Rattle.pl_switch_rule.specs.Reporting.{report, report_for}
use Rattle.pl_switch_rule.specs.SwitchRule.{Loose, switch_step}
use Rattle.pl_law_control_plane.specs.ControlPlanes.{ControlPlane, tells}
use Rattle.pl_law_control_plane.specs.PlaneSteps.{IsOrderTaken, IsReportTaken, LosesNoWord, ManagerTurns, PlaneStep, SwitchTurns}
use Rattle.pl_law_control_plane.specs.PlaneSteps.PlaneStep.{Carried, Entered, Heard, Left, Managed, Ordered, Ticked}
use Rattle.pl_law_due.specs.Due.{is_hello, is_silent, read}
use Rattle.pl_law_control_plane.specs.Restarts.{Restarts}
use Rattle.pl_law_due.specs.DueSteps.{AllReleaseWhere, DueReleasesWhere, DueStep, IsLast, ManagerPart, Parts, ReleasesWhere}
use Rattle.pl_law_due.specs.DueSteps.DueStep.{Managed as ManagedBy, Stepped}
use Rattle.pl_law_due.specs.DueSteps.ManagerPart.{Released, Treated, Turned}
use Rattle.pl_law_due.specs.Gathering.{GathersWell}
use Rattle.pl_law_due.proofs.Exports.{after_all, at_named, each_tells, ids_apart, manager_is, many_then, named_there, none_loud, now_is, orderly_now, plan_is, read_append, silent_after, silent_part, st, switch_is, treat}
use Rattle.pl_law_epochs.specs.Leading.{IsHeardOut, IsNoTrap}
use Rattle.pl_law_epochs.specs.Trapping.{TrapsAreReported, is_trap, no_traps, traps_end, traps_in_report}
use Rattle.pl_law_epochs.proofs.TrapWords.{more_in_report, other_heard, own_heard, report_traps}
use Rattle.pl_law_epochs.proofs.Untrapped.{frame_untrapped, order_untrapped, read_no_end, report_no_end, tick_untrapped}

module _ (f g : ControlPlane) (is : IsPlan f.plan) (well : GathersWell f) (reported : TrapsAreReported f) where
  abbrev g₀ : Gathered Treating ToManager
  g₀ = gathered f.manager

  coming : (s : ℕ) (id : SwitchId) → slice_get f.plan.ids s ≡ Some id → is_silent f.orders s ≡ false → is_whole g₀ ≡ false → is_among id g₀.ended ≡ false →
      will_end g₀.epoch (is_among id g₀.begun) (read (f.reports s)) ≡ true
  coming s id named loud part missing =
      subst (λ q. will_end g₀.epoch (is_among id g₀.begun) q ≡ true) (at_named [] f.plan.ids (ids_apart f.plan is) (λ i. read (f.reports i)) s id named)
      (well.coming id (named_there f.plan.ids s id named) (at_named false f.plan.ids (ids_apart f.plan is) (is_silent f.orders) s id named ∙ loud) part missing)

  -- ---- a switch tells something
  -- that has heard of the epoch
  loud_own : (s : ℕ) (told : List ToManager) (id : SwitchId) → slice_get f.plan.ids s ≡ Some id → is_silent f.orders s ≡ false → no_traps (read told) ≡ true →
      traps_in_report g₀ id (read (f.reports s ++ told)) ≡ true
  loud_own s told id named loud none =
      ap (traps_in_report g₀ id) (read_append (f.reports s) told)
      ∙ more_in_report g₀ id (read (f.reports s)) (read told) (λ part missing. coming s id named loud part missing) none (reported s id named loud)

  -- or that hears of it
  hello_own : (s : ℕ) (id : SwitchId) → slice_get f.plan.ids s ≡ Some id → (v : SwitchView) (n : ℕ) → is_silent f.orders s ≡ true → (n == f.manager.epoch) ≡ true →
      traps_in_report g₀ id (read (f.reports s ++ report_for n v)) ≡ true
  hello_own s id named v n silent same =
      let part = silent_part f is well s id named silent in
      let old = well.old s id named silent in
      let not_ended : is_among id g₀.ended ≡ false = elim (cases_Bool (is_among id g₀.ended)) [
        | inr nay ↦ nay
        | inl yea ↦ absurd (false≢true (sym old.not_begun ∙ well.orderly.begun id yea))
      ] in
      let queue : List (Report ToManager) = read (f.reports s) ++ Begin n ∷ (read (report v) ++ End n ∷ []) in
      let are : read (f.reports s ++ report_for n v) ≡ queue =
      read_append (f.reports s) (report_for n v) ∙ ap (λ q. read (f.reports s) ++ Begin n ∷ q) (read_append (report v) (tell.End n ∷ [])) in
      ap (traps_in_report g₀ id) are
      ∙ cond-false (is_whole g₀ || is_among id g₀.ended) (no_traps queue) (traps_end g₀.epoch (is_among id g₀.begun) queue) (λ i. part i || not_ended i)
      ∙ ap (λ b. traps_end g₀.epoch b queue) old.not_begun
      ∙ report_traps g₀.epoch n (read (f.reports s)) (read (report v)) old.begins_none (read_no_end (report v) (report_no_end v)) same

  module _ (m : ControlPlane) (s : ℕ) (input : SwitchInput) (turns : SwitchTurns Loose m s input g) (plan : m.plan ≡ f.plan) (manager : m.manager ≡ f.manager)
      (reports : (t : ℕ) → m.reports t ≡ f.reports t) (other_orders : (t : ℕ) → (t ≡ s → ⊥) → m.orders t ≡ f.orders t) where
    turn_reported : ((id : SwitchId) → slice_get f.plan.ids s ≡ Some id → is_silent g.orders s ≡ false → traps_in_report g₀ id (read (f.reports s ++ tells turns.acts)) ≡ true) → TrapsAreReported g
    turn_reported own n i at loud =
        let at_f : slice_get f.plan.ids n ≡ Some i = ap (λ (p : Plan). slice_get p.ids n) (sym (turns.acted.plan ∙ plan)) ∙ at in
        let here : g.reports s ≡ f.reports s ++ tells turns.acts = turns.acted.reports ∙ ap (λ q. q ++ tells turns.acts) (reports s) in
        ap (λ v. traps_in_report (gathered v) i (read (g.reports n))) (turns.acted.manager ∙ manager) ∙ elim (cases_eq n s) [
          | inl same ↦
              ap (λ k. traps_in_report g₀ i (read (g.reports k))) same ∙ ap (λ q. traps_in_report g₀ i (read q)) here
              ∙ own i (subst (λ k. slice_get f.plan.ids k ≡ Some i) same at_f) (ap (is_silent g.orders) (sym same) ∙ loud)
          | inr other ↦
              ap (λ q. traps_in_report g₀ i (read q)) (turns.acted.other_reports n other ∙ reports n)
              ∙ reported n i at_f (ap (list_any is_hello) (sym (turns.acted.orders n ∙ other_orders n other)) ∙ loud)
        ]

    -- a switch that hears no order
    quiet_reported : m.orders s ≡ f.orders s → no_traps (read (tells (switch_step turns.ruled.choose (m.view s) input).acts)) ≡ true → TrapsAreReported g
    quiet_reported same_orders none =
        turn_reported (λ id named loud. loud_own s (tells turns.acts) id named (ap (list_any is_hello) (sym (turns.acted.orders s ∙ same_orders)) ∙ loud)
        (subst (λ acts. no_traps (read (tells acts)) ≡ true) (sym turns.ruled.steps.done) none))

  -- one that hears an order
  ordered_reported : (s : ℕ) (says : ToSwitch) (m : ControlPlane) (taken : IsOrderTaken f s says m) (turns : SwitchTurns Loose m s (Says says) g) → TrapsAreReported g
  ordered_reported s says m taken turns =
      turn_reported m s (Says says) turns taken.left.plan taken.left.manager taken.reports taken.others
      (λ id named loud. elim (cases_Bool (is_hello says)) [
        | inr other ↦
            loud_own s (tells turns.acts) id named
            (ap (list_any is_hello) taken.first ∙ ap (λ b. b || list_any is_hello (m.orders s)) other ∙ ap (list_any is_hello) (sym (turns.acted.orders s)) ∙ loud)
            (subst (λ acts. no_traps (read (tells acts)) ≡ true) (sym turns.ruled.steps.done) (order_untrapped turns.ruled.choose (m.view s) says other))
        | inl hello ↦
            let silent : is_silent f.orders s ≡ true = ap (list_any is_hello) taken.first ∙ ap (λ b. b || list_any is_hello (m.orders s)) hello in
            let alone : f.orders s ≡ say.Hello f.manager.epoch ∷ [] = elim ((well.anew (silent_part f is well s id named silent)).orders_alone s id named) [
              | inl none ↦ absurd (false≢true (sym (ap (list_any is_hello) none) ∙ silent))
              | inr it ↦ it
            ] in
            let both : says ∷ m.orders s ≡ say.Hello f.manager.epoch ∷ [] = sym taken.first ∙ alone in
            let it : says ≡ say.Hello f.manager.epoch = cc in
            let told : tells turns.acts ≡ report_for f.manager.epoch (m.view s) =
            ap tells turns.ruled.steps.done ∙ ap (λ x. tells (switch_step turns.ruled.choose (m.view s) (Says x)).acts) it ∙ each_tells (report_for f.manager.epoch (m.view s)) in
            ap (λ ws. traps_in_report g₀ id (read (f.reports s ++ ws))) told
            ∙ hello_own s id named (m.view s) f.manager.epoch silent (eq-eqb f.manager.epoch f.manager.epoch refl)
      ])

  -- ---- the manager hears a switch
  heard_reported : (s : ℕ) (id : SwitchId) (told : ToManager) (m : ControlPlane) → slice_get f.plan.ids s ≡ Some id → IsReportTaken f s told m → ManagerTurns whole_rule m id told g → TrapsAreReported g
  heard_reported s id told m named taken turns n i at loud =
      let now : Gathered Treating ToManager = (st f m g is well s id told named taken turns).now in
      let many = many_then f m g is well s id told named taken turns in
      let heard : Gathered Treating ToManager = hears treat waits_for_places after_all g₀ id (as_report told) in
      let now_heard : now ≡ heard = now_is f m g is well s id told named taken turns (as_report told) in
      let orderly : IsOrderly f.plan.ids heard = subst (IsOrderly f.plan.ids) now_heard (orderly_now f m g is well s id told named taken turns) in
      let at_f : slice_get f.plan.ids n ≡ Some i = ap (λ (p : Plan). slice_get p.ids n) (sym (plan_is f m g is well s id told named taken turns)) ∙ at in
      let loud_f : is_silent f.orders n ≡ false = sym (silent_after f m g is well s id told named taken turns n) ∙ loud in
      let queue : List (Report ToManager) = read (m.reports n) in
      let path : traps_in_report (gathered g.manager) i (read (g.reports n)) ≡ traps_in_report heard i queue =
      ap (λ q. traps_in_report (gathered g.manager) i (read q)) (turns.reports n)
      ∙ ap (λ v. traps_in_report (gathered v) i queue) (manager_is f m g is well s id told named taken turns)
      ∙ (λ j. traps_in_report (record (gathered (viewed now)) { many = many j }) i queue) ∙ ap (λ x. traps_in_report x i queue) now_heard in
      path ∙ elim (cases_eq n s) [
        | inl same ↦
            let one : i ≡ id = same_id (sym at_f ∙ ap (slice_get f.plan.ids) same ∙ named) in
            ap (λ k. traps_in_report heard i (read (m.reports k))) same ∙ ap (λ u. traps_in_report heard u (read (m.reports s))) one
            ∙ own_heard g₀ id treat waits_for_places after_all (as_report told) (read (m.reports s))
            (ap (λ q. traps_in_report g₀ id (read q)) (sym taken.first) ∙ reported s id named (ap (is_silent f.orders) (sym same) ∙ loud_f))
        | inr differ ↦
            let other : same_switch id i ≡ false = elim (cases_Bool (same_switch id i)) [
              | inr nay ↦ nay
              | inl yea ↦ absurd (differ (ids_apart f.plan is n s i at_f (named ∙ ap Some (switch_is id i yea))))
            ] in
            other_heard g₀ id treat waits_for_places after_all f.plan.ids i (named_there f.plan.ids n i at_f) other queue (as_report told) orderly
            (ap (λ q. traps_in_report g₀ i (read q)) (taken.others n differ) ∙ reported n i at_f loud_f)
      ]
    where
      same_id : {X : Type 0} {a b : X} → Some a ≡ Some b → a ≡ b
      same_id e = cc

  pub step_reported : (step : PlaneStep Loose whole_rule f g) → LosesNoWord Loose whole_rule f g step → TrapsAreReported g
  step_reported (Left left) kept = λ n i at loud.
      ap (λ v. traps_in_report (gathered v) i (read (g.reports n))) left.manager ∙ ap (λ q. traps_in_report g₀ i (read q)) (kept.reports n)
      ∙ reported n i (ap (λ (p : Plan). slice_get p.ids n) (sym left.plan) ∙ at) (ap (list_any is_hello) (sym (kept.orders n)) ∙ loud)
  step_reported (Ticked s turns) kept = quiet_reported f s Tick turns refl refl (λ t. refl) (λ t differ. refl) refl (tick_untrapped turns.ruled.choose (f.view s))
  step_reported (Heard t q s port frame mid adjacent control taken turns) kept =
      quiet_reported mid s (Comes port frame) turns taken.left.plan taken.left.manager taken.reports (λ u differ. taken.orders u) (taken.orders s) (frame_untrapped turns.ruled.choose (mid.view s) port frame)
  step_reported (Carried t q s port frame mid adjacent control carries taken turns) kept =
      quiet_reported mid s (Comes port frame) turns taken.left.plan taken.left.manager taken.reports (λ u differ. taken.orders u) (taken.orders s) (frame_untrapped turns.ruled.choose (mid.view s) port frame)
  step_reported (Entered s port frame edge within free control turns) kept =
      quiet_reported f s (Comes port frame) turns refl refl (λ t. refl) (λ t differ. refl) refl (frame_untrapped turns.ruled.choose (f.view s) port frame)
  step_reported (Ordered s says mid taken turns) kept = ordered_reported s says mid taken turns
  step_reported (Managed s id told mid there named taken turns) kept = heard_reported s id told mid named taken turns

-- ---- a restart, and the beginning
pub restart_reported : (f g : ControlPlane) → IsPlan f.plan → Restarts f g → TrapsAreReported g
restart_reported f g is anew s id named loud = absurd (none_loud f g is anew s id named loud)

-- ---- where no report is missing, each trap that stands was reported
words_untrapped : (queue : List (Report ToManager)) → no_traps queue ≡ true → AllByRecursion IsNoTrap (words queue)
words_untrapped [] none = tt
words_untrapped (Begin n ∷ queue) none = words_untrapped queue none
words_untrapped (End n ∷ queue) none = words_untrapped queue none
words_untrapped (Tells w ∷ queue) none = let two = and_parts (not (is_trap w)) (no_traps queue) none in (no_trap w two.0, words_untrapped queue two.1)
  where
    no_trap : (word : ToManager) → not (is_trap word) ≡ true → IsNoTrap word
    no_trap (tell.Trapped a b c) h = absurd (false≢true h)
    no_trap (tell.Begin n) h = tt
    no_trap (tell.End n) h = tt
    no_trap (tell.Place place) h = tt
    no_trap (tell.Link u usable) h = tt
    no_trap tell.PodWanted h = tt
    no_trap (tell.Learned a b c) h = tt
    no_trap (tell.Aged a b) h = tt
    no_trap (tell.Query a b c) h = tt
    no_trap (tell.Members group any) h = tt

heard_out : (g x : ControlPlane) → GathersWell g → TrapsAreReported g → IsLast g x → IsHeardOut x
heard_out g x well reported last =
    let at_g : (s : ℕ) (id : SwitchId) → slice_get x.plan.ids s ≡ Some id → slice_get g.plan.ids s ≡ Some id = λ s id named. ap (λ (p : Plan). slice_get p.ids s) (sym last.plan) ∙ named in
    record {
      loud = λ s id named. elim (cases_Bool (is_silent x.orders s)) [
        | inr nay ↦ nay
        | inl yea ↦ absurd (false≢true (sym (well.loud last.whole s id (at_g s id named)) ∙ last.silence s yea))
      ];
      told = λ s id named.
          let there = reported s id (at_g s id named) (well.loud last.whole s id (at_g s id named)) in
          let queue = read (g.reports s) in
          let none : no_traps queue ≡ true =
          sym (cond-true (is_whole (gathered g.manager) || is_among id (gathered g.manager).ended) (no_traps queue)
          (traps_end (gathered g.manager).epoch (is_among id (gathered g.manager).begun) queue) (ap (λ b. b || is_among id (gathered g.manager).ended) last.whole)) ∙ there in
          subst (AllByRecursion IsNoTrap) (sym (last.reports s id (at_g s id named))) (words_untrapped queue none);
    }

-- ---- so addresses are released only then
module _ (P Q : ControlPlane → Type 0) (each : (x : ControlPlane) → P x → Q x) where
  part_weaker : (f g : ControlPlane) (part : ManagerPart f g) → ReleasesWhere P f g part → ReleasesWhere Q f g part
  part_weaker f g (Treated s id told mid within named taken turns) so = tt
  part_weaker f g (Turned turns) so = tt
  part_weaker f g (Released aged releases) so = elim so [ inl none ↦ inl none | inr it ↦ inr (each f it) ]

  parts_weaker : (mids : List ControlPlane) (f g : ControlPlane) (parts : Parts mids f g) → AllReleaseWhere P mids f g parts → AllReleaseWhere Q mids f g parts
  parts_weaker [] f g part so = part_weaker f g part so
  parts_weaker (mid ∷ mids) f g parts so = (part_weaker f mid parts.0 so.0, parts_weaker mids mid g parts.1 so.1)

  step_weaker : (f g : ControlPlane) (step : DueStep Loose f g) → DueReleasesWhere P Loose f g step → DueReleasesWhere Q Loose f g step
  step_weaker f g (Stepped told step sifted) so = tt
  step_weaker f g (ManagedBy mids parts) so = parts_weaker mids f g parts so

pub heard_out_step : (g : ControlPlane) → GathersWell g → TrapsAreReported g → (f h : ControlPlane) (step : DueStep Loose f h) → DueReleasesWhere (λ x. IsLast g x) Loose f h step →
    DueReleasesWhere (λ x. IsHeardOut x) Loose f h step
heard_out_step g well reported f h step so = step_weaker (λ x. IsLast g x) (λ x. IsHeardOut x) (λ x last. heard_out g x well reported last) f h step so
