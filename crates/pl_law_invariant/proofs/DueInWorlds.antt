-- A step of the world is one to what is due, where all of it is kept, or the manager begins anew.
use Rattle.std.proofs.Common.{◌≡◌, None}
use Rattle.pl_node.specs.HostInputs.{HostRule}
use Rattle.pl_manager_rule.specs.WholeRule.{whole_rule}
use Rattle.pl_switch_rule.specs.SwitchRule.{Loose}
use Rattle.pl_switch_rule.proofs.Exports.{loose_steps_are_accounted}
use Rattle.pl_world.specs.declared.event.Event.{Event}
use Rattle.pl_world.specs.Refusals.{refusal}
use Rattle.pl_world.specs.WorldRule.{WorldStep}
use Rattle.pl_world.specs.Worlds.{WorldView}
use Rattle.pl_law_control_plane.specs.ControlPlanes.{control_plane}
use Rattle.pl_law_control_plane.specs.Restarts.{OnPlane}
use Rattle.pl_law_control_plane.proofs.Exports.{step_on_plane}
use Rattle.pl_law_due.specs.Due.{due_plane}
use Rattle.pl_law_due.specs.DueSteps.{OnDue}
use Rattle.pl_law_due.specs.Gathering.{AreUnheard}
use Rattle.pl_law_due.proofs.Exports.{due_unheard, on_due}
use Rattle.pl_law_invariant.specs.ControlInvariant.{ControlInvariant}

-- what it is to the control plane
pub world_on_plane : (host : HostRule) (old : WorldView) (event : Event) (new : WorldView) → ControlInvariant old → refusal old event ≡ None →
    WorldStep Loose whole_rule host old event new → OnPlane Loose whole_rule (control_plane old) (control_plane new)
world_on_plane host old event new before none step = step_on_plane Loose whole_rule host loose_steps_are_accounted old event new before.counted before.hosts none step

pub world_due : (host : HostRule) (old : WorldView) (event : Event) (new : WorldView) → ControlInvariant old → refusal old event ≡ None →
    WorldStep Loose whole_rule host old event new → OnDue Loose (due_plane (control_plane old)) (due_plane (control_plane new))
world_due host old event new before none step =
    on_due (control_plane old) (control_plane new) before.counted.formed.plan before.size before.gathered (world_on_plane host old event new before none step)

-- of a silent switch nothing is due
pub world_unheard : (w : WorldView) → ControlInvariant w → AreUnheard (due_plane (control_plane w))
world_unheard w kept = due_unheard (control_plane w) kept.counted.formed.plan kept.gathered
