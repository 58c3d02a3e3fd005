-- Each run of lawful logic is one of the rules.
use Rattle.std.proofs.Common.{List}
use Rattle.pl_node.specs.Accounting.{AllowsNoMore}
use Rattle.pl_node.specs.HostInputs.{HostRule}
use Rattle.pl_node.specs.ManagerDuties.{ManagerRule}
use Rattle.pl_node.specs.SwitchInputs.{SwitchRule}
use Rattle.pl_manager_rule.specs.Lawful.{IsManagerRule}
use Rattle.pl_manager_rule.specs.WholeRule.{whole_rule}
use Rattle.pl_switch_rule.specs.SwitchRule.{Loose}
use Rattle.pl_world.specs.Runs.{Moment, WorldRun}
use Rattle.pl_world.specs.Worlds.{WorldView}
use Rattle.pl_world.proofs.Exports.{run_allowed}

-- switches that choose as they like, and a lawful manager
pub run_lawful : (switch : SwitchRule) (manager : ManagerRule) (host : HostRule) → AllowsNoMore switch Loose → IsManagerRule manager →
    (old : WorldView) (moments : List Moment) (new : WorldView) → WorldRun switch manager host old moments new → WorldRun Loose whole_rule host old moments new
run_lawful switch manager host within lawful old moments new run =
    run_allowed switch Loose manager whole_rule host within (λ before s says after acts ruled. (lawful before s says after acts).0 ruled) old moments new run
