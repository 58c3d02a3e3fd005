-- Where hosts stand changes when a host moves, and else never; and the wiring never.
use Rattle.std.proofs.Common.{◌≡◌, ◌+◌, None, refl, ap, ◌∙◌, subst}
use Rattle.std.specs.List.{AllByRecursion}
use Rattle.pl_wiring.specs.Plan.{IsPlan}
use Rattle.pl_node.specs.HostInputs.{HostRule}
use Rattle.pl_node.specs.ManagerDuties.{ManagerRule}
use Rattle.pl_node.specs.SwitchInputs.{SwitchRule}
use Rattle.pl_world.specs.declared.event.Event.{Event}
use Rattle.pl_world.specs.Flying.{IsCounted}
use Rattle.pl_world.specs.Refusals.{refusal, refusal_of_event}
use Rattle.pl_world.specs.WorldRule.{WorldStep}
use Rattle.pl_world.specs.Worlds.{WorldView}
use Rattle.pl_world.proofs.Exports.{all_set, event_is_not_refused, or_moved, OrMoved, same_refusal}
use Rattle.pl_world.proofs.Exports.OrMoved.{HasMoved, NotMoved}
use Rattle.pl_law_control_plane.specs.ControlPlanes.{ControlPlane}
use Rattle.pl_law_control_plane.specs.HostsAtEdges.{HostsAtEdges, IsAtEdge}
use Rattle.pl_law_control_plane.specs.PlaneSteps.{PlaneStep}
use Rattle.pl_law_control_plane.specs.PlaneSteps.PlaneStep.{Carried, Entered, Heard, Left, Managed, Ordered, Ticked}
use Rattle.pl_law_control_plane.specs.Restarts.{OnPlane}
use Rattle.pl_law_control_plane.specs.Restarts.OnPlane.{BeginsAnew, Steps}
use Rattle.pl_law_control_plane.proofs.HostsAtEdgePorts.{moves_to_edge}

-- the wiring stays
plan_stays : (switch : SwitchRule) (manager : ManagerRule) (f g : ControlPlane) → PlaneStep switch manager f g → g.plan ≡ f.plan
plan_stays switch manager f g (Left left) = left.plan
plan_stays switch manager f g (Ticked s turns) = turns.acted.plan
plan_stays switch manager f g (Heard t q s port frame mid adjacent control taken turns) = turns.acted.plan ∙ taken.left.plan
plan_stays switch manager f g (Carried t q s port frame mid adjacent kind carries taken turns) = turns.acted.plan ∙ taken.left.plan
plan_stays switch manager f g (Entered s port frame edge within free kind turns) = turns.acted.plan
plan_stays switch manager f g (Ordered s says mid taken turns) = turns.acted.plan ∙ taken.left.plan
plan_stays switch manager f g (Managed s id told mid there named taken turns) = turns.plan ∙ taken.left.plan

pub plan_same : (switch : SwitchRule) (manager : ManagerRule) (f g : ControlPlane) → OnPlane switch manager f g → g.plan ≡ f.plan
plan_same switch manager f g (Steps step) = plan_stays switch manager f g step.0
plan_same switch manager f g (BeginsAnew anew) = anew.alike.plan

-- so do the places of hosts, but for a move
module _ (switch : SwitchRule) (manager : ManagerRule) (host : HostRule) where
  by_case : (w : WorldView) (happens : Event) (new : WorldView) → refusal_of_event w happens ≡ None → IsPlan w.plan →
      AllByRecursion (IsAtEdge w.plan) w.attachments →
      OrMoved w happens new → AllByRecursion (IsAtEdge w.plan) new.attachments
  by_case w happens new none is all (NotMoved same) = rw (ap (λ (x : WorldView). x.attachments) same) all
  by_case w happens new none is all (HasMoved h s port from moves at turns) =
      rw (ap (λ (x : WorldView). x.attachments) turns)
      (all_set (IsAtEdge w.plan) w.attachments h.0 (record { edge = s; port = port })
      (moves_to_edge w h.0 s.0 port s refl is (subst (λ e. refusal_of_event w e ≡ None) moves none)) all)

  pub step_attachments : (old : WorldView) (happens : Event) (new : WorldView) → IsCounted old → new.plan ≡ old.plan → HostsAtEdges old → refusal old happens ≡ None →
      WorldStep switch manager host old happens new → HostsAtEdges new
  step_attachments old happens new is same all none step =
      let w : WorldView = record old { steps = old.steps + 1 } in
      rw same (by_case w happens new (same_refusal old happens ∙ event_is_not_refused old happens none) is.formed.plan all
      (or_moved switch manager host w happens new step))
