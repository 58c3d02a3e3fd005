-- The epoch of a switch is the manager's exactly where it is not silent: each step keeps it so, and a restart.
use Rattle.std.proofs.Common.{◌≡◌, ◌<◌, ℕ, ◌+◌, Bool, true, false, List, [], ◌∷◌, Some, slice_get, refl, sym, ap, subst, ◌∙◌, inl, inr, arith}
use Rattle.std.specs.List.{list_any}
use Rattle.std.proofs.lemmas.Bool.{cases_Bool, cases_eq, false≢true, or_parts}
use Rattle.std.proofs.lemmas.Option.{slice_get_within}
use Rattle.pl_frame.specs.declared.address.SwitchId.{SwitchId}
use Rattle.pl_wiring.specs.Plan.{IsPlan, Plan}
use Rattle.pl_node.specs.declared.messages.ToManager.{ToManager}
use Rattle.pl_node.specs.declared.messages.ToSwitch.{ToSwitch}
use Rattle.pl_node.specs.declared.messages.ToSwitch.TheVariants.{Hello}
use Rattle.pl_node.specs.ManagerViews.{ManagerView}
use Rattle.pl_node.specs.SwitchInputs.{SwitchInput}
use Rattle.pl_node.specs.SwitchInputs.SwitchInput.{Comes, Says, Tick}
use Rattle.pl_node.specs.SwitchViews.{SwitchView}
use Rattle.pl_switch_rule.specs.SwitchRule.{Loose, switch_step}
use Rattle.pl_manager_rule.specs.WholeRule.{whole_rule}
use Rattle.pl_law_control_plane.specs.ControlPlanes.{ControlPlane}
use Rattle.pl_law_control_plane.specs.PlaneSteps.{IsOrderTaken, IsReportTaken, LosesNoWord, ManagerTurns, PlaneStep, SwitchTurns}
use Rattle.pl_law_control_plane.specs.PlaneSteps.PlaneStep.{Carried, Entered, Heard, Left, Managed, Ordered, Ticked}
use Rattle.pl_law_due.specs.Due.{is_hello, is_silent}
use Rattle.pl_law_control_plane.specs.Restarts.{Restarts}
use Rattle.pl_law_due.specs.Gathering.{EpochsAgree, GathersWell, HasEpoch}
use Rattle.pl_law_due.proofs.Chains.{due_unheard}
use Rattle.pl_law_due.proofs.Staying.{epoch_after, silent_after}
use Rattle.pl_law_due.proofs.SwitchEpochs.{frame_keeps, order_keeps, tick_keeps}

-- a switch that has this epoch, and is silent or not
alike : (old new : SwitchView) (before after : Bool) (epoch then_epoch : ℕ) → new.epoch ≡ old.epoch → after ≡ before → then_epoch ≡ epoch → HasEpoch old before epoch → HasEpoch new after then_epoch
alike old new before after epoch then_epoch same silence epochs has = record {
  loud = λ is. same ∙ has.loud (sym silence ∙ is) ∙ sym epochs;
  silent = λ is. (let less = has.silent (sym silence ∙ is) in subst (λ n. n < then_epoch) (sym same) (subst (λ n. old.epoch < n) (sym epochs) less));
}

module _ (f g : ControlPlane) (is : IsPlan f.plan) (well : GathersWell f) (agree : EpochsAgree f) where
  -- a switch that hears of no epoch
  turn_agree : (m : ControlPlane) (s : ℕ) (input : SwitchInput) → (turns : SwitchTurns Loose m s input g) → m.plan ≡ f.plan → ((t : ℕ) → m.view t ≡ f.view t) → m.manager ≡ f.manager →
      ((t : ℕ) → (t ≡ s → ⊥) → m.orders t ≡ f.orders t) → is_silent m.orders s ≡ is_silent f.orders s →
      (switch_step turns.ruled.choose (m.view s) input).view.epoch ≡ (m.view s).epoch → EpochsAgree g
  turn_agree m s input turns plan view manager orders silence keeps t id named =
      let before = agree t id (ap (λ (p : Plan). slice_get p.ids t) (sym (turns.acted.plan ∙ plan)) ∙ named) in
      elim (cases_eq t s) [
        | inl here ↦
            alike (f.view t) (g.view t) (is_silent f.orders t) (is_silent g.orders t) f.manager.epoch g.manager.epoch
            (ap (λ x. (g.view x).epoch) here ∙ ap (λ (v : SwitchView). v.epoch) (turns.acted.here ∙ turns.ruled.steps.view) ∙ keeps ∙ ap (λ (v : SwitchView). v.epoch) (view s) ∙ ap (λ x. (f.view x).epoch) (sym here))
            (ap (list_any is_hello) (turns.acted.orders t) ∙ ap (is_silent m.orders) here ∙ silence ∙ ap (is_silent f.orders) (sym here))
            (ap (λ (v : ManagerView). v.epoch) (turns.acted.manager ∙ manager)) before
        | inr other ↦
            alike (f.view t) (g.view t) (is_silent f.orders t) (is_silent g.orders t) f.manager.epoch g.manager.epoch
            (ap (λ (v : SwitchView). v.epoch) (turns.acted.others t other ∙ view t))
            (ap (list_any is_hello) (turns.acted.orders t ∙ orders t other))
            (ap (λ (v : ManagerView). v.epoch) (turns.acted.manager ∙ manager)) before
      ]

  order_agree : (m : ControlPlane) (s : ℕ) (says : ToSwitch) → IsOrderTaken f s says m → SwitchTurns Loose m s (Says says) g → EpochsAgree g
  order_agree m s says taken turns t id named = elim (cases_eq t s) [
    | inr other ↦
        alike (f.view t) (g.view t) (is_silent f.orders t) (is_silent g.orders t) f.manager.epoch g.manager.epoch
        (ap (λ (v : SwitchView). v.epoch) (turns.acted.others t other ∙ taken.left.view t))
        (ap (list_any is_hello) (turns.acted.orders t ∙ taken.others t other)) manager (agree t id named_f)
    | inl here ↦ at_home here
  ]
    where
      named_f : slice_get f.plan.ids t ≡ Some id
      named_f = ap (λ (p : Plan). slice_get p.ids t) (sym (turns.acted.plan ∙ taken.left.plan)) ∙ named

      manager : g.manager.epoch ≡ f.manager.epoch
      manager = ap (λ (v : ManagerView). v.epoch) (turns.acted.manager ∙ taken.left.manager)

      view : t ≡ s → (g.view t).epoch ≡ (switch_step turns.ruled.choose (m.view s) (Says says)).view.epoch
      view here = ap (λ x. (g.view x).epoch) here ∙ ap (λ (v : SwitchView). v.epoch) (turns.acted.here ∙ turns.ruled.steps.view)

      first : (a b : ToSwitch) (xs ys : List ToSwitch) → a ∷ xs ≡ b ∷ ys → (a ≡ b) × (xs ≡ ys)
      first a b xs ys same = (cc same, cc same)

      at_home : t ≡ s → HasEpoch (g.view t) (is_silent g.orders t) g.manager.epoch
      at_home here = elim (cases_Bool (is_silent f.orders t)) [
        | inl silent ↦
            let alone = (due_unheard f is well t id named_f silent).alone in
            let two = first says (Hello f.manager.epoch) (m.orders s) [] (sym taken.first ∙ ap f.orders (sym here) ∙ alone) in
            let now : is_silent g.orders t ≡ false = ap (list_any is_hello) (turns.acted.orders t ∙ ap m.orders here ∙ two.1) in
            record {
              loud = λ loud. view here ∙ ap (λ x. (switch_step turns.ruled.choose (m.view s) (Says x)).view.epoch) two.0 ∙ sym manager;
              silent = λ still. absurd (false≢true (sym now ∙ still));
            }
        | inr loud ↦
            let two = or_parts (is_hello says) (list_any is_hello (m.orders s)) (sym (ap (list_any is_hello) taken.first) ∙ ap (is_silent f.orders) (sym here) ∙ loud) in
            alike (f.view t) (g.view t) (is_silent f.orders t) (is_silent g.orders t) f.manager.epoch g.manager.epoch
            (view here ∙ order_keeps turns.ruled.choose (m.view s) says (λ epoch is. absurd (false≢true (sym two.0 ∙ ap is_hello is)))
            ∙ ap (λ (v : SwitchView). v.epoch) (taken.left.view s) ∙ ap (λ x. (f.view x).epoch) (sym here))
            (ap (list_any is_hello) (turns.acted.orders t ∙ ap m.orders here) ∙ two.1 ∙ sym loud)
            manager (agree t id named_f)
      ]

  managed_agree : (m : ControlPlane) (s : ℕ) (id : SwitchId) (told : ToManager) (named : slice_get f.plan.ids s ≡ Some id) (taken : IsReportTaken f s told m) → ManagerTurns whole_rule m id told g → EpochsAgree g
  managed_agree m s id told named taken turns t id_t named_t =
      alike (f.view t) (g.view t) (is_silent f.orders t) (is_silent g.orders t) f.manager.epoch g.manager.epoch
      (ap (λ (v : SwitchView). v.epoch) (turns.view t ∙ taken.left.view t))
      (silent_after f m g is well s id told named taken turns t)
      (epoch_after f m g is well s id told named taken turns)
      (agree t id_t (ap (λ (p : Plan). slice_get p.ids t) (sym (turns.plan ∙ taken.left.plan)) ∙ named_t))

  pub step_agrees : (step : PlaneStep Loose whole_rule f g) → LosesNoWord Loose whole_rule f g step → EpochsAgree g
  step_agrees (Left left) kept = λ t id named.
      alike (f.view t) (g.view t) (is_silent f.orders t) (is_silent g.orders t) f.manager.epoch g.manager.epoch
      (ap (λ (v : SwitchView). v.epoch) (left.view t)) (ap (list_any is_hello) (kept.orders t)) (ap (λ (v : ManagerView). v.epoch) left.manager)
      (agree t id (ap (λ (p : Plan). slice_get p.ids t) (sym left.plan) ∙ named))
  step_agrees (Ticked s turns) kept = turn_agree f s Tick turns refl (λ t. refl) refl (λ t differ. refl) refl (tick_keeps turns.ruled.choose (f.view s))
  step_agrees (Heard t q s port frame mid adjacent control taken turns) kept =
      turn_agree mid s (Comes port frame) turns taken.left.plan taken.left.view taken.left.manager (λ u differ. taken.orders u) (ap (list_any is_hello) (taken.orders s))
      (frame_keeps turns.ruled.choose (mid.view s) port frame)
  step_agrees (Carried t q s port frame mid adjacent control carries taken turns) kept =
      turn_agree mid s (Comes port frame) turns taken.left.plan taken.left.view taken.left.manager (λ u differ. taken.orders u) (ap (list_any is_hello) (taken.orders s))
      (frame_keeps turns.ruled.choose (mid.view s) port frame)
  step_agrees (Entered s port frame edge within free control turns) kept =
      turn_agree f s (Comes port frame) turns refl (λ t. refl) refl (λ t differ. refl) refl (frame_keeps turns.ruled.choose (f.view s) port frame)
  step_agrees (Ordered s says mid taken turns) kept = order_agree mid s says taken turns
  step_agrees (Managed s id told mid there named taken turns) kept = managed_agree mid s id told named taken turns

pub restart_agrees : (f g : ControlPlane) → IsPlan f.plan → EpochsAgree f → Restarts f g → EpochsAgree g
restart_agrees f g is agree restarts t id named =
    let named_f : slice_get f.plan.ids t ≡ Some id = ap (λ (p : Plan). slice_get p.ids t) (sym restarts.alike.plan) ∙ named in
    let less = slice_get_within f.plan.ids t id named_f in
    let many = is.ids_many in
    let now : is_silent g.orders t ≡ true = ap (list_any is_hello) (restarts.orders t (omega (arith, less, many))) in
    let has = agree t id named_f in
    record {
      loud = λ loud. absurd (false≢true (sym loud ∙ now));
      silent = λ silent.
          subst (λ n. n < g.manager.epoch) (sym (ap (λ (v : SwitchView). v.epoch) (restarts.alike.view t)))
          (subst (λ n. (f.view t).epoch < n) (sym (ap (λ (v : ManagerView). v.epoch) restarts.manager)) (below has));
    }
  where
    below : HasEpoch (f.view t) (is_silent f.orders t) f.manager.epoch → (f.view t).epoch < f.manager.epoch + 1
    below has = elim (cases_Bool (is_silent f.orders t)) [
      | inl silent ↦ (let before = has.silent silent in omega (arith, before))
      | inr loud ↦ (let same = has.loud loud in omega (arith, same))
    ]
