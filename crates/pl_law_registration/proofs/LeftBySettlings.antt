-- What settlings leave.
use Rattle.std.proofs.Common.{◌<◌, ℕ, List, [], ◌∷◌, ◌++◌, None, subst}
use Rattle.pl_wiring.specs.Plan.{Plan}
use Rattle.pl_node.specs.Accounting.{AllowsNoMore}
use Rattle.pl_node.specs.HostDuties.{HostsSendData, HostsSendOwn}
use Rattle.pl_node.specs.HostInputs.{HostRule}
use Rattle.pl_node.specs.ManagerDuties.{ManagerRule}
use Rattle.pl_node.specs.SwitchInputs.{SwitchRule}
use Rattle.pl_host_rule.specs.HostRule.{IsHostRule}
use Rattle.pl_manager_rule.specs.Lawful.{IsManagerRule}
use Rattle.pl_switch_rule.specs.SwitchRule.{Loose}
use Rattle.pl_world.specs.declared.limits.Limits.{Limits}
use Rattle.pl_world.specs.Booting.{CanBegin, booted}
use Rattle.pl_world.specs.Runs.{Moment, WorldRun}
use Rattle.pl_world.specs.Worlds.{WorldView}
use Rattle.pl_fabric.specs.declared.settling.Settling.{Settling}
use Rattle.pl_fabric.specs.Settlings.{IsAtRest, Settles}
use Rattle.pl_fabric.proofs.Exports.{rounds_are_run}
use Rattle.pl_law_invariant.proofs.Exports.{run_lawful}
use Rattle.pl_law_registration.specs.Registering.{AreRegistered}
use Rattle.pl_law_registration.proofs.Registered.{run_registers}
use Rattle.pl_law_registration.proofs.Empty.{all_empty}

module _ (switch : SwitchRule) (manager : ManagerRule) (host : HostRule) where
  -- two runs, one behind the other
  pub longer : (x y z : WorldView) (moments more : List Moment) → WorldRun switch manager host x moments y → WorldRun switch manager host y more z →
      WorldRun switch manager host x (moments ++ more) z
  longer x y z [] more run rest = subst (λ (w : WorldView). WorldRun switch manager host w more z) run rest
  longer x y z (m ∷ moments) more run rest = (run.0, run.1, longer run.0 y z moments more run.2 rest)

  module _ (within : AllowsNoMore switch Loose) (lawful : IsManagerRule manager) (host_lawful : IsHostRule host) (sends : HostsSendData host) (owns : HostsSendOwn host) (plan : Plan) (limits : Limits) where
    pub rest_registers : (moments : List Moment) (new : WorldView) → CanBegin plan → WorldRun switch manager host (booted plan limits) moments new → IsAtRest new → AreRegistered new
    rest_registers moments new can run rest =
        run_registers host host_lawful sends owns plan limits moments new can (run_lawful switch manager host within lawful (booted plan limits) moments new run) (all_empty new rest.empty)

    pub settling_registers : (moments : List Moment) (old : WorldView) (asked : ℕ) (answer : Settling) (new : WorldView) → CanBegin plan →
        WorldRun switch manager host (booted plan limits) moments old → (settling : Settles switch manager host asked old answer new) → settling.used < asked → AreRegistered new
    settling_registers moments old asked answer new can run settling fewer =
        let more = rounds_are_run switch manager host settling.used old new None settling.rounds in
        rest_registers (moments ++ more.0) new can (longer (booted plan limits) old new moments more.0 run more.1) (settling.least fewer)
