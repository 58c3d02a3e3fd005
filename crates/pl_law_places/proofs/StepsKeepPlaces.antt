-- Each step of the world keeps places true.
use Rattle.std.proofs.Common.{◌≡◌, None, sym, subst}
use Rattle.pl_node.specs.HostInputs.{HostRule}
use Rattle.pl_node.specs.ManagerDuties.{ManagerRule}
use Rattle.pl_wiring.specs.Plan.{Plan}
use Rattle.pl_switch_rule.specs.SwitchRule.{Loose}
use Rattle.pl_switch_rule.proofs.Exports.{loose_steps_are_accounted}
use Rattle.pl_world.specs.declared.event.Event.{Event}
use Rattle.pl_world.specs.Flying.{IsCounted}
use Rattle.pl_world.specs.Refusals.{refusal}
use Rattle.pl_world.specs.WorldRule.{WorldStep}
use Rattle.pl_world.specs.Worlds.{WorldView}
use Rattle.pl_law_control_plane.specs.ControlPlanes.{control_plane}
use Rattle.pl_law_control_plane.specs.HostsAtEdges.{HostsAtEdges}
use Rattle.pl_law_control_plane.proofs.Exports.{plan_same, step_on_plane}
use Rattle.pl_law_places.specs.Places.{ArePlaced, ArePodNumbers, PositionsDiffer}
use Rattle.pl_law_places.proofs.KeepingPlaces.{places_on}

pub world_step_keeps : (manager : ManagerRule) (host : HostRule) (old : WorldView) (event : Event) (new : WorldView) → IsCounted old → HostsAtEdges old →
    PositionsDiffer old.plan (control_plane old) → ArePodNumbers (control_plane old) → refusal old event ≡ None → WorldStep Loose manager host old event new →
    ArePlaced old.plan (control_plane old) → ArePlaced new.plan (control_plane new)
world_step_keeps manager host old event new counted hosts differ numbers none step placed =
    let in_plane = step_on_plane Loose manager host loose_steps_are_accounted old event new counted hosts none step in
    subst (λ (plan : Plan). ArePlaced plan (control_plane new)) (sym (plan_same Loose manager (control_plane old) (control_plane new) in_plane))
    (places_on manager (control_plane old) (control_plane new) counted.formed.plan placed differ numbers in_plane)
