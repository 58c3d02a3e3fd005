-- In every run frames of groups arrive well.
use Rattle.pl_wiring.specs.Plan.{Plan}
use Rattle.pl_node.specs.HostDuties.{HostsJoinBySending, HostsSendData, HostsSendOwn}
use Rattle.pl_node.specs.HostInputs.{HostRule}
use Rattle.pl_manager_rule.specs.WholeRule.{whole_rule}
use Rattle.pl_switch_rule.specs.SwitchRule.{Loose}
use Rattle.pl_switch_rule.proofs.Exports.{loose_steps_are_accounted}
use Rattle.pl_world.specs.declared.limits.Limits.{Limits}
use Rattle.pl_world.specs.Booting.{CanBegin, booted}
use Rattle.pl_world.proofs.Exports.{booted_is_counted}
use Rattle.pl_law_invariant.proofs.Exports.{run_keeps_all}
use Rattle.pl_law_copies.proofs.Exports.{first_there, know_trees, run_once}
use Rattle.pl_law_members.specs.Joined.{HostsKeepTheirGroups}
use Rattle.pl_law_members.proofs.Exports.{joined_at_first, members_are, run_joined}
use Rattle.pl_law_theorem.specs.Groups.{GroupsAreWell}

pub groups_are_well : (host : HostRule) → HostsSendData host → HostsSendOwn host → HostsJoinBySending host → HostsKeepTheirGroups host →
    (plan : Plan) (limits : Limits) → CanBegin plan → GroupsAreWell host plan limits
groups_are_well host sends owns joins keeps plan limits can = λ moments w run.
    let once = run_once host sends owns plan limits moments w can run in
    record {
      first = λ s port id frame items within peer head group. first_there w once.come s port id frame items within peer head;
      members = members_are host keeps w
          (run_joined Loose whole_rule host joins loose_steps_are_accounted sends (booted plan limits) moments w (booted_is_counted plan limits can)
          (joined_at_first plan limits) run);
      trees = know_trees w (run_keeps_all host sends owns plan limits moments w can run) once.trees;
    }
