-- Each step of the control plane keeps its addresses in order, in any epoch, and so does a restart.
use Rattle.std.proofs.Common.{[], Option, ap}
use Rattle.pl_frame.specs.declared.address.Ip4.{Ip4}
use Rattle.pl_frame.specs.declared.address.Mac.{Mac}
use Rattle.pl_lemmas.proofs.Exports.{replicated}
use Rattle.pl_wiring.specs.Plan.{IsPlan, Plan}
use Rattle.pl_wiring.specs.Labels.{switch_count}
use Rattle.pl_manager_rule.specs.WholeRule.{gathered, whole_rule}
use Rattle.pl_switch_rule.specs.SwitchRule.{Loose}
use Rattle.pl_world.specs.declared.limits.Limits.{Limits}
use Rattle.pl_world.specs.Booting.{booted}
use Rattle.pl_law_control_plane.specs.ControlPlanes.{ControlPlane, control_plane}
use Rattle.pl_law_control_plane.specs.PlaneSteps.{WholeStep}
use Rattle.pl_law_due.specs.Due.{due_plane, read}
use Rattle.pl_law_control_plane.specs.Restarts.{Restarts}
use Rattle.pl_law_due.specs.DueSteps.{DueStep}
use Rattle.pl_law_due.specs.Gathering.{GathersWell}
use Rattle.pl_law_due.proofs.Exports.{come_due, due_unheard, step_due, step_gathers, restart_due, step_releases}
use Rattle.pl_law_epochs.specs.Addressed.{AreApart, BringsOwn, ComesFromSwitch, IsFair}
use Rattle.pl_law_epochs.specs.InOrder.{AddressesAreInOrder}
use Rattle.pl_law_epochs.specs.Leading.{ReleasesHeardOut}
use Rattle.pl_law_epochs.specs.Trapping.{TrapsAreReported, traps_in_report}
use Rattle.pl_law_epochs.proofs.Beginning.{first_in_order}
use Rattle.pl_law_epochs.proofs.LeadingSteps.{first_leads, restart_leads, step_leads}
use Rattle.pl_law_epochs.proofs.Restarting.{restart_in_order}
use Rattle.pl_law_epochs.proofs.Stepping.{step_in_order}
use Rattle.pl_law_epochs.proofs.TrapsStood.{TrapsStood, step_stood}
use Rattle.pl_law_epochs.proofs.TrapReports.{heard_out_step, restart_reported, step_reported}

pub plane_in_order : (own : Mac → Option Ip4) (f g : ControlPlane) → IsPlan f.plan → GathersWell f → AreApart f.view → AreApart g.view → (step : WholeStep Loose whole_rule f g) →
    IsFair own Loose whole_rule f g step.0 → AddressesAreInOrder own f → AddressesAreInOrder own g
plane_in_order own f g is well apart apart_then step fair a =
    let unheard = due_unheard f is well in
    let due = step_due f g is well step.0 step.1 in
    let fairly = come_due f g is well (λ v port frame. BringsOwn own v port frame) (λ v port frame. ComesFromSwitch v port frame) step.0 step.1 fair in
    let reported = step_reported f g is well a.reported step.0 step.1 in
    record {
      addressed = step_in_order own (due_plane f) (due_plane g) is unheard apart apart_then due fairly a.addressed;
      reported = reported;
      lead = step_leads own (due_plane f) (due_plane g) is unheard apart apart_then due fairly
          (heard_out_step g (step_gathers f g is well step.0 step.1) reported (due_plane f) (due_plane g) due (step_releases f g is well step.0 step.1)) a.addressed a.lead;
    }

-- each trap that stands then stood before, or is set by the order that its switch obeys
pub plane_stood : (own : Mac → Option Ip4) (f g : ControlPlane) → IsPlan f.plan → GathersWell f → AreApart f.view → AreApart g.view → (step : WholeStep Loose whole_rule f g) →
    IsFair own Loose whole_rule f g step.0 → AddressesAreInOrder own f → TrapsStood f.plan f.view f.orders g.view
plane_stood own f g is well apart apart_then step fair a =
    step_stood own (due_plane f) (due_plane g) is (due_unheard f is well) apart apart_then (step_due f g is well step.0 step.1)
    (come_due f g is well (λ v port frame. BringsOwn own v port frame) (λ v port frame. ComesFromSwitch v port frame) step.0 step.1 fair) a.addressed

-- addresses are released only while each trap that stands was reported
pub released_reported : (f g : ControlPlane) → IsPlan f.plan → GathersWell f → TrapsAreReported f → WholeStep Loose whole_rule f g →
    (due : DueStep Loose (due_plane f) (due_plane g)) × ReleasesHeardOut Loose (due_plane f) (due_plane g) due
released_reported f g is well reported step =
    let due = step_due f g is well step.0 step.1 in (
      due,
      heard_out_step g (step_gathers f g is well step.0 step.1) (step_reported f g is well reported step.0 step.1) (due_plane f) (due_plane g) due (step_releases f g is well step.0 step.1),
    )

pub plane_restart_in_order : (own : Mac → Option Ip4) (f g : ControlPlane) → IsPlan f.plan → Restarts f g → AddressesAreInOrder own f → AddressesAreInOrder own g
plane_restart_in_order own f g is anew a = record {
  addressed = restart_in_order own (due_plane f) (due_plane g) is (restart_due f g is anew) a.addressed;
  reported = restart_reported f g is anew;
  lead = restart_leads f g is anew a.lead;
}

pub plane_first_reported : (plan : Plan) (limits : Limits) → TrapsAreReported (control_plane (booted plan limits))
plane_first_reported plan limits s id named loud =
    let f : ControlPlane = control_plane (booted plan limits) in
    ap (λ q. traps_in_report (gathered f.manager) id (read q)) (replicated (switch_count plan.k) s [])

pub plane_first_in_order : (own : Mac → Option Ip4) (plan : Plan) (limits : Limits) → AddressesAreInOrder own (control_plane (booted plan limits))
plane_first_in_order own plan limits = record {
  addressed = first_in_order own plan limits;
  reported = plane_first_reported plan limits;
  lead = first_leads plan limits;
}
