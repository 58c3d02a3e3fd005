-- Each step of the control plane is one to what is due, and the reports are gathered in order still.
use mathlib.Core.Path.{fun_ext}
use Rattle.std.proofs.Common.{◌≡◌, ◌⊎◌, ◌<◌, ℕ, ◌==◌, ◌||◌, Bool, true, false, cond, List, [], ◌∷◌, ◌++◌, Some, get_or, slice_get, refl, sym, ap, subst, ◌∙◌, inl, inr, arith, eq-eqb}
use Rattle.std.specs.List.{AllByRecursion, list_any}
use Rattle.std.proofs.lemmas.Bool.{cases_Bool, false≢true, or_parts}
use Rattle.std.proofs.lemmas.Option.{slice_get-get_or}
use Rattle.pl_frame.specs.declared.address.SwitchId.{SwitchId}
use Rattle.pl_wiring.specs.Labels.{switch_count}
use Rattle.pl_wiring.specs.Plan.{IsPlan, Plan}
use Rattle.pl_gathering.specs.Gathering.{is_whole}
use Rattle.pl_gathering.specs.Orderly.{begins}
use Rattle.pl_node.specs.declared.messages.ToManager.{ToManager}
use Rattle.pl_node.specs.declared.messages.ToSwitch.{ToSwitch}
use Rattle.pl_node.specs.declared.messages.ToSwitch.TheVariants as say
use Rattle.pl_node.specs.ManagerViews.{ManagerView}
use Rattle.pl_node.specs.SwitchInputs.{SwitchInput}
use Rattle.pl_node.specs.SwitchInputs.SwitchInput.{Comes, Says, Tick}
use Rattle.pl_node.specs.SwitchViews.{SwitchView}
use Rattle.pl_switch_rule.specs.Reporting.{report, report_for}
use Rattle.pl_switch_rule.specs.SwitchRule.{Loose, switch_step}
use Rattle.pl_manager_rule.specs.WholeRule.{gathered, whole_rule}
use Rattle.pl_law_control_plane.specs.ControlPlanes.{ControlPlane, tells}
use Rattle.pl_law_control_plane.specs.PlaneSteps.{AreAsBefore, ComeSo, IsLeft, IsOrderTaken, LosesNoWord, PlaneStep, SwitchTurns}
use Rattle.pl_law_control_plane.specs.PlaneSteps.PlaneStep.{Carried, Entered, Heard, Left, Managed, Ordered, Ticked}
use Rattle.pl_law_due.specs.Due.{due_of, due_plane, is_hello, is_silent, read, words_of}
use Rattle.pl_law_due.specs.DueSteps.{ComeSoDue, DueReleasesWhere, DueStep, IsLast, IsSifted}
use Rattle.pl_law_due.specs.DueSteps.DueStep.{Managed as ManagedBy, Stepped}
use Rattle.pl_law_due.specs.Gathering.{GathersBy, GathersWell, IsHelloAlone}
use Rattle.pl_law_due.proofs.Beginnings.{each_tells, frames_tell_none, ticks_begin_none}
use Rattle.pl_law_due.proofs.Hearing.{hearing_parts}
use Rattle.pl_law_due.proofs.Ids.{ids_apart}
use Rattle.pl_law_due.proofs.Sifting.{as_due, due_same, hello_owns, is_sifted, left_due, loud_owns, message_due, order_due, silent_owns, silent_part, told_plane, turns_due}
use Rattle.pl_law_due.proofs.Staying.{heard_well}
use Rattle.pl_law_due.proofs.Telling.{MayTell, told_well}
use Rattle.pl_law_due.proofs.Telling.MayTell.{Greeted, Loud, Silent}

-- in another plane where the same is known and waits
pub well_same : (f g : ControlPlane) → g.plan ≡ f.plan → g.manager ≡ f.manager → ((s : ℕ) → g.reports s ≡ f.reports s) → ((s : ℕ) → g.orders s ≡ f.orders s) →
    GathersWell f → GathersWell g
well_same f g plan manager reports orders well =
    subst (λ (p : Plan). GathersBy p.ids g.manager g.reports g.orders) (sym plan)
    (subst (λ (v : ManagerView). GathersBy f.plan.ids v g.reports g.orders) (sym manager)
    (subst (λ (q : ℕ → List ToManager). GathersBy f.plan.ids f.manager q g.orders) (sym (fun_ext reports))
    (subst (GathersBy f.plan.ids f.manager f.reports) (sym (fun_ext orders)) well)))

-- an order that says that the manager began anew, or another
greets : (says : ToSwitch) → ((epoch : ℕ) × (says ≡ say.Hello epoch)) ⊎ (is_hello says ≡ false)
greets (say.Hello epoch) = inl (epoch, refl)
greets (say.Pod n) = inr refl
greets (say.Answer a b c d) = inr refl
greets (say.Flood a b c) = inr refl
greets (say.Avoid list) = inr refl
greets (say.Invalidate a b c d) = inr refl
greets (say.Release a) = inr refl
greets (say.Tree group part) = inr refl

-- of a first order its epoch, and what stands behind it
abbrev first_epoch : List ToSwitch → ℕ
first_epoch (say.Hello epoch ∷ rest) = epoch
first_epoch orders = 0

abbrev behind_first : List ToSwitch → List ToSwitch
behind_first [] = []
behind_first (says ∷ rest) = rest

abbrev first_is_hello : List ToSwitch → Bool
first_is_hello [] = false
first_is_hello (says ∷ rest) = is_hello says

module _ (f g : ControlPlane) (is : IsPlan f.plan) (well : GathersWell f) where
  -- ---- a switch's turn, in a plane where what is due is the same
  module _ (m : ControlPlane) (s : ℕ) (input : SwitchInput) (turns : SwitchTurns Loose m s input g) (plan : m.plan ≡ f.plan) (manager : m.manager ≡ f.manager)
      (reports : (t : ℕ) → m.reports t ≡ f.reports t) (other_orders : (t : ℕ) → (t ≡ s → ⊥) → m.orders t ≡ f.orders t) where
    abbrev id : SwitchId
    id = get_or f.plan.ids s (record { 0 = 0 })

    named : slice_get f.plan.ids s ≡ Some id
    named =
        let many = is.ids_many in
        let there : s < switch_count f.plan.k = subst (λ (p : Plan). s < switch_count p.k) plan turns.there in
        slice_get-get_or f.plan.ids s (record { 0 = 0 }) (omega (arith, many, there))

    abbrev told : List ToManager
    told = tells turns.acts

    abbrev May : Type 0
    May = MayTell f.manager.epoch (f.orders s) (g.orders s) told

    manager_then : g.manager ≡ f.manager
    manager_then = turns.acted.manager ∙ manager

    plan_then : g.plan ≡ f.plan
    plan_then = turns.acted.plan ∙ plan

    here : g.reports s ≡ f.reports s ++ told
    here = turns.acted.reports ∙ ap (λ q. q ++ told) (reports s)

    others : (t : ℕ) → (t ≡ s → ⊥) → g.reports t ≡ f.reports t
    others t differ = turns.acted.other_reports t differ ∙ reports t

    orders_then : (t : ℕ) → (t ≡ s → ⊥) → g.orders t ≡ f.orders t
    orders_then t differ = turns.acted.orders t ∙ other_orders t differ

    module _ (may : May) where
      pub turn_well : (is_whole (gathered f.manager) ≡ false → IsHelloAlone f.manager.epoch (f.orders s) → IsHelloAlone f.manager.epoch (g.orders s)) → GathersWell g
      turn_well alone =
          subst (λ (p : Plan). GathersBy p.ids g.manager g.reports g.orders) (sym plan_then)
          (subst (λ (v : ManagerView). GathersBy f.plan.ids v g.reports g.orders) (sym manager_then)
          (told_well f.plan.ids (ids_apart f.plan is) f.manager f.reports f.orders well s id named told g.reports g.orders may here others orders_then alone))

      owns : May → due_of f.manager (Some id) (f.reports s ++ told) ≡ cond (is_silent g.orders s) [] (words_of (due_of f.manager (Some id) (f.reports s) ++ told))
      owns (Loud loud now) =
          loud_owns f is well s id named told loud
          ∙ sym (ap (λ b. cond b [] (words_of (due_of f.manager (Some id) (f.reports s) ++ told))) now)
      owns (Silent silent now none) =
          silent_owns f is well s id named told silent none
          ∙ sym (ap (λ b. cond b [] (words_of (due_of f.manager (Some id) (f.reports s) ++ told))) now)
      owns (Greeted silent now n rest report same) =
          hello_owns f is well s id named told silent n _ report same
          ∙ sym (ap (λ b. cond b [] (words_of (due_of f.manager (Some id) (f.reports s) ++ told))) now)

      pub turn_sifted : IsSifted (told_plane m g s told) (due_plane g)
      turn_sifted =
          let sifted = is_sifted f is well s id named told g plan_then manager_then here others orders_then (owns may) in
          record {
            alike = record { plan = refl; view = λ t. refl; says = λ t port. refl; carries = λ t port h. h };
            reports = λ t. sifted.reports t
                ∙ ap (λ d. cond (is_silent g.orders t) [] (words_of (d ++ (cond (t == s) told [])))) (sym (due_same f m plan manager t (reports t)));
            orders = λ t. refl;
            manager = refl;
          }

    -- ---- a switch that hears no order
    module _ (same_orders : m.orders s ≡ f.orders s)
        (none : AllByRecursion (λ r. begins f.manager.epoch r ≡ false) (read (tells (switch_step turns.ruled.choose (m.view s) input).acts))) where
      pub frame_may : May
      frame_may = elim (cases_Bool (is_silent f.orders s)) [
        | inl silent ↦
            Silent silent (ap (list_any is_hello) (turns.acted.orders s ∙ same_orders) ∙ silent)
            (subst (λ acts. AllByRecursion (λ r. begins f.manager.epoch r ≡ false) (read (tells acts))) (sym turns.ruled.steps.done) none)
        | inr loud ↦ Loud loud (ap (list_any is_hello) (turns.acted.orders s ∙ same_orders) ∙ loud)
      ]

      pub frame_alone : is_whole (gathered f.manager) ≡ false → IsHelloAlone f.manager.epoch (f.orders s) → IsHelloAlone f.manager.epoch (g.orders s)
      frame_alone part alone = subst (IsHelloAlone f.manager.epoch) (sym (turns.acted.orders s ∙ same_orders)) alone

  -- ---- a switch hears an order
  module _ (m : ControlPlane) (s : ℕ) (says : ToSwitch) (taken : IsOrderTaken f s says m) (turns : SwitchTurns Loose m s (Says says) g) where
    behind : g.orders s ≡ behind_first (f.orders s)
    behind = turns.acted.orders s ∙ sym (ap behind_first taken.first)

    order_alone : is_whole (gathered f.manager) ≡ false → IsHelloAlone f.manager.epoch (f.orders s) → IsHelloAlone f.manager.epoch (g.orders s)
    order_alone part (inl none) = inl (behind ∙ ap behind_first none)
    order_alone part (inr alone) = inl (behind ∙ ap behind_first alone)

    -- what waits for a silent switch is that the manager began anew
    greeted : is_silent f.orders s ≡ true → f.orders s ≡ say.Hello f.manager.epoch ∷ []
    greeted silent =
        let i = id m s (Says says) turns taken.left.plan taken.left.manager taken.reports taken.others in
        let at = named m s (Says says) turns taken.left.plan taken.left.manager taken.reports taken.others in
        elim ((well.anew (silent_part f is well s i at silent)).orders_alone s i at) [
          | inl none ↦ absurd (false≢true (sym (ap (list_any is_hello) none) ∙ silent))
          | inr alone ↦ alone
        ]

    order_may : MayTell f.manager.epoch (f.orders s) (g.orders s) (tells turns.acts)
    order_may = elim (greets says) [
      | inl it ↦
          let silent : is_silent f.orders s ≡ true = ap (list_any is_hello) taken.first ∙ ap (λ x. is_hello x || list_any is_hello (m.orders s)) it.1 in
          let alone = greeted silent in
          let epoch : it.0 ≡ f.manager.epoch = sym (ap first_epoch (taken.first ∙ ap (λ x. x ∷ m.orders s) it.1)) ∙ ap first_epoch alone in
          Greeted silent (ap (list_any is_hello) (behind ∙ ap behind_first alone)) it.0 (report (m.view s))
          (ap tells turns.ruled.steps.done ∙ ap (λ x. tells (switch_step turns.ruled.choose (m.view s) (Says x)).acts) it.1 ∙ each_tells (report_for it.0 (m.view s)))
          (eq-eqb it.0 f.manager.epoch epoch)
      | inr other ↦ elim (cases_Bool (is_silent f.orders s)) [
        | inl silent ↦ absurd (false≢true (sym other ∙ ap first_is_hello (sym taken.first ∙ greeted silent)))
        | inr loud ↦
            let two = or_parts (is_hello says) (list_any is_hello (m.orders s)) (sym (ap (list_any is_hello) taken.first) ∙ loud) in
            Loud loud (ap (list_any is_hello) (turns.acted.orders s) ∙ two.1)
      ]
    ]

  -- ---- each step
  record Both : Type 0 where
    gathers : GathersWell g
    due : DueStep Loose (due_plane f) (due_plane g)
    releases : DueReleasesWhere (λ x. IsLast g x) Loose (due_plane f) (due_plane g) due

  left_both : (left : IsLeft f g) → AreAsBefore f g → Both
  left_both left kept =
      let then_well = well_same f g left.plan left.manager kept.reports kept.orders well in
      record {
        gathers = then_well;
        due = Stepped (due_plane g) (
          Left (left_due f g left kept.reports),
          record { reports = λ s. due_same f g left.plan left.manager s (kept.reports s); orders = kept.orders },
        ) (record {
          alike = record { plan = refl; view = λ t. refl; says = λ t port. refl; carries = λ t port h. h };
          reports = as_due g (subst IsPlan (sym left.plan) is) then_well;
          orders = λ t. refl;
          manager = refl;
        });
        releases = tt;
      }

  both : (step : PlaneStep Loose whole_rule f g) → LosesNoWord Loose whole_rule f g step → Both
  both (Left left) kept = left_both left kept
  both (Ticked s turns) kept =
      let may = frame_may f s Tick turns refl refl (λ t. refl) (λ t differ. refl) refl (ticks_begin_none turns.ruled.choose (f.view s) f.manager.epoch) in
      record {
        gathers = turn_well f s Tick turns refl refl (λ t. refl) (λ t differ. refl) may
            (frame_alone f s Tick turns refl refl (λ t. refl) (λ t differ. refl) refl (ticks_begin_none turns.ruled.choose (f.view s) f.manager.epoch));
        due = Stepped (told_plane f g s (tells turns.acts)) (Ticked s (turns_due Loose f g s Tick turns), tt)
            (turn_sifted f s Tick turns refl refl (λ t. refl) (λ t differ. refl) may);
        releases = tt;
      }
  both (Heard t q s port frame mid adjacent control taken turns) kept =
      let none = frames_tell_none turns.ruled.choose (mid.view s) f.manager.epoch port frame in
      let same = taken.left in
      let may = frame_may mid s (Comes port frame) turns same.plan same.manager taken.reports (λ u differ. taken.orders u) (taken.orders s) none in
      record {
        gathers = turn_well mid s (Comes port frame) turns same.plan same.manager taken.reports (λ u differ. taken.orders u) may
            (frame_alone mid s (Comes port frame) turns same.plan same.manager taken.reports (λ u differ. taken.orders u) (taken.orders s) none);
        due = Stepped (told_plane mid g s (tells turns.acts)) (
          Heard t q s port frame (due_plane mid) adjacent control (message_due f mid t q _ taken) (turns_due Loose mid g s (Comes port frame) turns),
          tt,
        ) (turn_sifted mid s (Comes port frame) turns same.plan same.manager taken.reports (λ u differ. taken.orders u) may);
        releases = tt;
      }
  both (Carried t q s port frame mid adjacent control carries taken turns) kept =
      let none = frames_tell_none turns.ruled.choose (mid.view s) f.manager.epoch port frame in
      let same = taken.left in
      let may = frame_may mid s (Comes port frame) turns same.plan same.manager taken.reports (λ u differ. taken.orders u) (taken.orders s) none in
      record {
        gathers = turn_well mid s (Comes port frame) turns same.plan same.manager taken.reports (λ u differ. taken.orders u) may
            (frame_alone mid s (Comes port frame) turns same.plan same.manager taken.reports (λ u differ. taken.orders u) (taken.orders s) none);
        due = Stepped (told_plane mid g s (tells turns.acts)) (
          Carried t q s port frame (due_plane mid) adjacent control carries (message_due f mid t q [] taken) (turns_due Loose mid g s (Comes port frame) turns),
          tt,
        ) (turn_sifted mid s (Comes port frame) turns same.plan same.manager taken.reports (λ u differ. taken.orders u) may);
        releases = tt;
      }
  both (Entered s port frame edge within free control turns) kept =
      let none = frames_tell_none turns.ruled.choose (f.view s) f.manager.epoch port frame in
      let may = frame_may f s (Comes port frame) turns refl refl (λ t. refl) (λ t differ. refl) refl none in
      record {
        gathers = turn_well f s (Comes port frame) turns refl refl (λ t. refl) (λ t differ. refl) may
            (frame_alone f s (Comes port frame) turns refl refl (λ t. refl) (λ t differ. refl) refl none);
        due = Stepped (told_plane f g s (tells turns.acts)) (Entered s port frame edge within free control (turns_due Loose f g s (Comes port frame) turns), tt)
            (turn_sifted f s (Comes port frame) turns refl refl (λ t. refl) (λ t differ. refl) may);
        releases = tt;
      }
  both (Ordered s says mid taken turns) kept =
      let same = taken.left in
      let may = order_may mid s says taken turns in
      record {
        gathers = turn_well mid s (Says says) turns same.plan same.manager taken.reports taken.others may (order_alone mid s says taken turns);
        due = Stepped (told_plane mid g s (tells turns.acts)) (Ordered s says (due_plane mid) (order_due f mid s says taken) (turns_due Loose mid g s (Says says) turns), tt)
            (turn_sifted mid s (Says says) turns same.plan same.manager taken.reports taken.others may);
        releases = tt;
      }
  both (Managed s id told mid there named taken turns) kept =
      let parts = hearing_parts f mid g is well s id told named taken turns in
      record {
        gathers = heard_well f mid g is well s id told named taken turns;
        due = ManagedBy parts.0 parts.1.0;
        releases = parts.1.1;
      }

  pub step_due : (step : PlaneStep Loose whole_rule f g) → LosesNoWord Loose whole_rule f g step → DueStep Loose (due_plane f) (due_plane g)
  step_due step kept = (both step kept).due

  pub step_gathers : (step : PlaneStep Loose whole_rule f g) → LosesNoWord Loose whole_rule f g step → GathersWell g
  step_gathers step kept = (both step kept).gathers

  -- addresses are released only in the last part
  pub step_releases : (step : PlaneStep Loose whole_rule f g) (kept : LosesNoWord Loose whole_rule f g step) →
      DueReleasesWhere (λ x. IsLast g x) Loose (due_plane f) (due_plane g) (step_due step kept)
  unfolding step_due
  step_releases step kept = (both step kept).releases

  -- data frames come in as they did
  module _ (host link : SwitchView → ℕ → List ℕ → Type 0) where
    pub come_due : (step : PlaneStep Loose whole_rule f g) (kept : LosesNoWord Loose whole_rule f g step) → ComeSo host link Loose whole_rule f g step →
        ComeSoDue host link Loose (due_plane f) (due_plane g) (step_due step kept)
    unfolding step_due both left_both
    come_due (Left left) kept so = tt
    come_due (Ticked s turns) kept so = tt
    come_due (Heard t q s port frame mid adjacent control taken turns) kept so = tt
    come_due (Carried t q s port frame mid adjacent control carries taken turns) kept so = so
    come_due (Entered s port frame edge within free control turns) kept so = so
    come_due (Ordered s says mid taken turns) kept so = tt
    come_due (Managed s i says mid there at taken turns) kept so = tt
