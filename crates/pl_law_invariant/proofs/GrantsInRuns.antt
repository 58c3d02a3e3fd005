-- In every run what is granted was nobody's, stood for nothing, and stays its host's until it is freed.
use Rattle.std.proofs.Common.{◌≡◌, ◌<◌, List}
use Rattle.pl_pmac.specs.declared.pmac.Pmac.{Pmac}
use Rattle.pl_wiring.specs.Plan.{Plan}
use Rattle.pl_node.specs.HostDuties.{HostsSendData, HostsSendOwn}
use Rattle.pl_node.specs.HostInputs.{HostRule}
use Rattle.pl_manager_rule.specs.WholeRule.{whole_rule}
use Rattle.pl_switch_rule.specs.SwitchRule.{Loose}
use Rattle.pl_world.specs.declared.event.Event.{Event}
use Rattle.pl_world.specs.declared.limits.Limits.{Limits}
use Rattle.pl_world.specs.Booting.{CanBegin, booted}
use Rattle.pl_world.specs.Runs.{Moment, WorldRun}
use Rattle.pl_world.specs.WorldRule.{WorldStep}
use Rattle.pl_world.specs.Worlds.{WorldView}
use Rattle.pl_law_addresses.specs.Addressed.{IsLiveNowhere}
use Rattle.pl_law_addresses.specs.GrantedOnce.{StayUnlessFreed, times_freed, times_granted}
use Rattle.pl_law_addresses.specs.Standing.{StandsForNothing}
use Rattle.pl_law_addresses.proofs.Exports.{one_step_keeps, since_then}
use Rattle.pl_law_epochs.proofs.Exports.{nobodys_for_nothing}
use Rattle.pl_law_invariant.specs.ControlInvariant.{ControlInvariant}
use Rattle.pl_law_invariant.proofs.Grounding.{grounded}
use Rattle.pl_law_invariant.proofs.KeepingControl.{grants, run_keeps_all, runs_are_grounded}

module _ (host : HostRule) (sends : HostsSendData host) (owns : HostsSendOwn host) where
  -- from one moment of a run to a later one
  module _ (plan : Plan) (limits : Limits) (can : CanBegin plan) (moments more : List Moment) (old new : WorldView)
      (run : WorldRun Loose whole_rule host (booted plan limits) moments old) (rest : WorldRun Loose whole_rule host old more new) where
    pub stay_granted : StayUnlessFreed old.switches old.journal new.switches new.journal
    stay_granted = (since_then host sends owns plan limits can (runs_are_grounded host sends owns plan limits can) moments more old new run rest).since

    pub granted_for_nothing : (x : Pmac) → times_granted x old.journal < times_granted x new.journal → times_freed x new.journal ≡ times_freed x old.journal →
        IsLiveNowhere old.switches x × StandsForNothing old x
    granted_for_nothing x given freed =
        let kept = run_keeps_all host sends owns plan limits moments old can run in
        let later = since_then host sends owns plan limits can (runs_are_grounded host sends owns plan limits can) moments more old new run rest in
        let none = later.given x given freed in
        (none, nobodys_for_nothing old kept.counted kept.addresses x none)

  -- one step
  pub step_stays_granted : (old : WorldView) (event : Event) (new : WorldView) → ControlInvariant old → ControlInvariant new →
      WorldStep Loose whole_rule host old event new → StayUnlessFreed old.switches old.journal new.switches new.journal
  step_stays_granted old event new before after step =
      one_step_keeps host sends owns whole_rule old event new before.counted
      (grounded old before.counted before.placed before.voting before.numbered).neighbours
      (grounded new after.counted after.placed after.voting after.numbered).apart step (grants old before)
