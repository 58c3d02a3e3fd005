use Rattle.pl_switch_rule.specs.SwitchRule.{Loose}
use Rattle.pl_switch_rule.proofs.Exports.{loose_steps_are_accounted}
use Rattle.pl_world.specs.Booting.{booted}
use Rattle.pl_world.proofs.Exports.{booted_is_counted}
use Rattle.pl_law_members.proofs.MembersInRuns.{joined_at_first, lawful_hosts_keep, members_are, run_joined}
use Rattle.pl_law_members.proofs.joined_laws.hosts_that_keep_a_frame_of_a_group_are_members_in_every_run.Goals as goal

pub returns : goal.returns
returns g c = λ plan limits moments new can run.
    members_are g.H.HostLogic.rule (lawful_hosts_keep g.H.HostLogic.rule g.met.H.LawfulHost.lawful) new
    (run_joined Loose g.M.ManagerLogic.rule g.H.HostLogic.rule g.met.H.HostLogic.joins loose_steps_are_accounted g.met.H.HostLogic.sends (booted plan limits) moments new
    (booted_is_counted plan limits can) (joined_at_first plan limits) run)
