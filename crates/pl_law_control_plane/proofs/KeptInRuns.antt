-- What each step keeps, in worlds that count their frames, each run keeps.
use Rattle.std.proofs.Common.{◌≡◌, List, [], ◌∷◌, None, sym, subst}
use Rattle.pl_node.specs.Accounting.{AccountsForFrames}
use Rattle.pl_node.specs.HostDuties.{HostsSendData}
use Rattle.pl_node.specs.HostInputs.{HostRule}
use Rattle.pl_node.specs.ManagerDuties.{ManagerRule}
use Rattle.pl_node.specs.SwitchInputs.{SwitchRule}
use Rattle.pl_journal.specs.declared.entry.Entry.{Entry}
use Rattle.pl_world.specs.declared.event.Event.{Event}
use Rattle.pl_world.specs.Booting.{CanBegin, booted}
use Rattle.pl_world.specs.declared.limits.Limits.{Limits}
use Rattle.pl_world.specs.Changes.{noted}
use Rattle.pl_world.specs.Flying.{IsCounted}
use Rattle.pl_world.specs.Refusals.{refusal}
use Rattle.pl_world.specs.Runs.{Moment, WorldRun}
use Rattle.pl_world.specs.Runs.Moment.{Mark, Step}
use Rattle.pl_world.specs.WorldRule.{WorldStep}
use Rattle.pl_world.specs.Worlds.{WorldView}
use Rattle.pl_wiring.specs.Plan.{Plan}
use Rattle.pl_world.proofs.Exports.{booted_is_counted, marked_counted, step_is_counted}
use Rattle.pl_law_control_plane.specs.ControlPlanes.{control_plane}
use Rattle.pl_law_control_plane.specs.HostsAtEdges.{HostsAtEdges}
use Rattle.pl_law_control_plane.proofs.HostsAtEdgePorts.{hosts_at_first}
use Rattle.pl_law_control_plane.proofs.HostsStayWithoutMoves.{plan_same, step_attachments}
use Rattle.pl_law_control_plane.proofs.StepsOfPlane.{step_on_plane}

module _ (switch : SwitchRule) (manager : ManagerRule) (host : HostRule) (accounts : AccountsForFrames switch) (sends : HostsSendData host) where
  pub kept_in_run : (Holds : WorldView → Type 0) →
      ((old : WorldView) (event : Event) (new : WorldView) → IsCounted old → Holds old → refusal old event ≡ None → WorldStep switch manager host old event new → Holds new) →
      ((w : WorldView) (entry : Entry) → Holds w → Holds (noted w entry)) →
      (old : WorldView) (moments : List Moment) (new : WorldView) → IsCounted old → Holds old → WorldRun switch manager host old moments new → Holds new
  kept_in_run Holds steps marks old [] new counted holds same = subst Holds (sym same) holds
  kept_in_run Holds steps marks old (Step event ∷ moments) new counted holds run =
      kept_in_run Holds steps marks run.0 moments new (step_is_counted switch manager host accounts sends old event run.0 counted run.1.0 run.1.1)
      (steps old event run.0 counted holds run.1.0 run.1.1) run.2
  kept_in_run Holds steps marks old (Mark entry ∷ moments) new counted holds run =
      kept_in_run Holds steps marks run.0 moments new (marked_counted old run.0 entry run.1.0 run.1.1 counted)
      (subst Holds (sym run.1.1) (marks old entry holds)) run.2

  pub step_keeps_hosts : (old : WorldView) (event : Event) (new : WorldView) → IsCounted old → HostsAtEdges old → refusal old event ≡ None →
      WorldStep switch manager host old event new → HostsAtEdges new
  step_keeps_hosts old event new counted hosts none step =
      step_attachments switch manager host old event new counted
      (plan_same switch manager (control_plane old) (control_plane new) (step_on_plane switch manager host accounts old event new counted hosts none step)) hosts none step

  pub run_keeps_hosts : (plan : Plan) (limits : Limits) (moments : List Moment) (new : WorldView) → CanBegin plan →
      WorldRun switch manager host (booted plan limits) moments new → HostsAtEdges new
  run_keeps_hosts plan limits moments new can run =
      kept_in_run HostsAtEdges step_keeps_hosts (λ w entry hosts. hosts) (booted plan limits) moments new (booted_is_counted plan limits can) (hosts_at_first plan can.is_plan) run
