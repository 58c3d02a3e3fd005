use Rattle.pl_switch_rule.specs.SwitchRule.{Loose}
use Rattle.pl_law_members.proofs.MembersInRuns.{step_joined}
use Rattle.pl_law_members.proofs.joined_laws.each_step_keeps_what_hosts_have_joined.Goals as goal

pub returns : goal.returns
returns g c = step_joined Loose g.M.ManagerLogic.rule g.H.HostLogic.rule g.met.H.HostLogic.joins
