-- Each moment of a run from the beginning is orderly.
use Rattle.std.proofs.Common.{◌≡◌, ℕ, zero, suc, ◌+◌, List, [], ◌∷◌, Some, None, slice_get, IsTrue, Contains, refl, sym, ap, ◌∙◌, subst, inl, inr, arith}
use Rattle.std.proofs.lemmas.Bool.{or_cases}
use Rattle.pl_frame.specs.declared.address.SwitchId.{SwitchId}
use Rattle.pl_layouts.specs.Equality.{same_switch}
use Rattle.pl_wiring.specs.Plan.{Plan}
use Rattle.pl_node.specs.HostDuties.{HostsSendData, HostsSendOwn}
use Rattle.pl_node.specs.HostInputs.{HostRule}
use Rattle.pl_node.specs.ManagerViews.{ManagerView, is_heard}
use Rattle.pl_manager_rule.specs.WholeRule.{whole_rule}
use Rattle.pl_manager_rule.proofs.Exports.{same_is, whole_answers}
use Rattle.pl_switch_rule.specs.SwitchRule.{Loose}
use Rattle.pl_world.specs.declared.event.Event.{Event}
use Rattle.pl_world.specs.declared.limits.Limits.{Limits}
use Rattle.pl_world.specs.declared.attachment.AttachmentPoint.{AttachmentPoint}
use Rattle.pl_world.specs.Booting.{CanBegin, booted}
use Rattle.pl_world.specs.Refusals.{refusal_of_event}
use Rattle.pl_world.specs.Runs.{Moment, WorldRun}
use Rattle.pl_world.specs.Worlds.{WorldView}
use Rattle.pl_world.proofs.Exports.{event_is_not_refused, or_moved, OrMoved, place_is_free, run_along}
use Rattle.pl_world.proofs.Exports.OrMoved.{HasMoved, NotMoved}
use Rattle.pl_law_control_plane.specs.ControlPlanes.{ControlPlane}
use Rattle.pl_law_control_plane.specs.PlaneSteps.{PlaneStep}
use Rattle.pl_law_control_plane.specs.PlaneSteps.PlaneStep.{Carried, Entered, Heard, Left, Managed, Ordered, Ticked}
use Rattle.pl_law_control_plane.specs.Restarts.{OnPlane}
use Rattle.pl_law_control_plane.specs.Restarts.OnPlane.{BeginsAnew, Steps}
use Rattle.pl_law_invariant.proofs.Exports.{run_keeps_all}
use Rattle.pl_law_records.proofs.Exports.{run_holds, run_neighbours}
use Rattle.pl_law_arrival.specs.Orderly.{HearsWiring, IsOrderlyWorld, AreApart}
use Rattle.pl_law_arrival.proofs.Hosting.{first_apart, moved_apart, somebody}

-- ---- whom the manager heard
hears_same : (f g : ControlPlane) → g.plan ≡ f.plan → g.manager ≡ f.manager → HearsWiring f.plan f.manager → HearsWiring g.plan g.manager
hears_same f g plan manager heard id h =
    subst (λ (p : Plan). Contains p.ids id) (sym plan) (heard id (subst (λ (m : ManagerView). IsTrue (is_heard m id)) manager h))

found_in : (ids : List SwitchId) (n : ℕ) (id : SwitchId) → slice_get ids n ≡ Some id → Contains ids id
found_in [] n id found = absurd (cc found)
found_in (i ∷ ids) zero id found = (zero, omega arith, cc found)
found_in (i ∷ ids) (suc n) id found = let rest = found_in ids n id found in (suc rest.0, omega (arith, rest.1), rest.2)

plane_hears : (f g : ControlPlane) → PlaneStep Loose whole_rule f g → HearsWiring f.plan f.manager → HearsWiring g.plan g.manager
plane_hears f g (Left left) heard = hears_same f g left.plan left.manager heard
plane_hears f g (Ticked s turns) heard = hears_same f g turns.acted.plan turns.acted.manager heard
plane_hears f g (Heard t q s port frame mid adjacent control taken turns) heard =
    hears_same f g (turns.acted.plan ∙ taken.left.plan) (turns.acted.manager ∙ taken.left.manager) heard
plane_hears f g (Carried t q s port frame mid adjacent control carries taken turns) heard =
    hears_same f g (turns.acted.plan ∙ taken.left.plan) (turns.acted.manager ∙ taken.left.manager) heard
plane_hears f g (Entered s port frame edge within free control turns) heard = hears_same f g turns.acted.plan turns.acted.manager heard
plane_hears f g (Ordered s says mid taken turns) heard = hears_same f g (turns.acted.plan ∙ taken.left.plan) (turns.acted.manager ∙ taken.left.manager) heard
plane_hears f g (Managed s id told mid there named taken turns) heard = λ t h.
    let after = subst (λ (m : ManagerView). IsTrue (is_heard m t)) turns.manager h in
    let grown = whole_answers.grows mid.manager id told turns.after turns.acts turns.ruled in
    let plan = turns.plan ∙ taken.left.plan in
    subst (λ (p : Plan). Contains p.ids t) (sym plan)
    (elim (or_cases (same_switch id t) (is_heard mid.manager t) (grown.heard t after)) [
      | inl now ↦ found_in f.plan.ids s t (named ∙ ap Some (same_is id t now))
      | inr before ↦ heard t (subst (λ (m : ManagerView). IsTrue (is_heard m t)) taken.left.manager before)
    ])

-- a manager that begins anew heard nobody
on_plane_hears : (f g : ControlPlane) → OnPlane Loose whole_rule f g → HearsWiring f.plan f.manager → HearsWiring g.plan g.manager
on_plane_hears f g (Steps step) heard = plane_hears f g step.0 heard
on_plane_hears f g (BeginsAnew anew) heard = λ id h. absurd (cc (subst (λ (m : ManagerView). IsTrue (is_heard m id)) anew.manager h))

hears_nobody : (plan : Plan) (limits : Limits) → HearsWiring plan (booted plan limits).manager
hears_nobody plan limits id h = absurd (cc h)

-- ---- where hosts stand
module _ (host : HostRule) (old : WorldView) (happens : Event) (new : WorldView) where
  by_case : refusal_of_event old happens ≡ None → AreApart old.attachments → OrMoved (record old { steps = old.steps + 1 }) happens new → AreApart new.attachments
  by_case none apart (NotMoved same) = subst AreApart (sym (ap (λ (w : WorldView). w.attachments) same)) apart
  by_case none apart (HasMoved h s p from is at turns) =
      let to : AttachmentPoint = record { edge = s; port = p } in
      let free = place_is_free old h.0 s.0 p (subst (λ (x : Event). refusal_of_event old x ≡ None) is none) in
      subst AreApart (sym (ap (λ (w : WorldView). w.attachments) turns))
      (moved_apart old.attachments h.0 from to apart at (λ k there. somebody old.attachments k to there s.0 p refl refl free))

abbrev StaysApart : WorldView → WorldView → Type 0
StaysApart a b = AreApart a.attachments → AreApart b.attachments

apart_in_run : (host : HostRule) (old : WorldView) (moments : List Moment) (new : WorldView) → WorldRun Loose whole_rule host old moments new →
    AreApart old.attachments → AreApart new.attachments
apart_in_run host old moments new run =
    run_along StaysApart (λ w apart. apart) (λ a b c one next apart. next (one apart)) Loose whole_rule host
    (λ a happens b none step apart. by_case host a happens b (event_is_not_refused a happens none) apart
    (or_moved Loose whole_rule host (record a { steps = a.steps + 1 }) happens b step))
    (λ w e is apart. apart) old moments new run

module _ (host : HostRule) (sends : HostsSendData host) (owns : HostsSendOwn host) where
  pub run_is_orderly : (plan : Plan) (limits : Limits) (moments : List Moment) (new : WorldView) → CanBegin plan →
      WorldRun Loose whole_rule host (booted plan limits) moments new → IsOrderlyWorld new
  run_is_orderly plan limits moments new can run = record {
    kept = run_keeps_all host sends owns plan limits moments new can run;
    heard = run_holds host sends owns (λ f. HearsWiring f.plan f.manager) (λ f g is is_g names heard step. on_plane_hears f g step heard)
        plan limits moments new can (hears_nobody plan limits) run;
    told = run_neighbours host sends owns plan limits moments new can run;
    apart = apart_in_run host (booted plan limits) moments new run (first_apart plan can.is_plan);
  }
