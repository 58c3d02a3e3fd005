use Rattle.pl_script_rule.proofs.ScriptRuns.{plays_is_run}
use Rattle.pl_script_rule.proofs.laws.a_script_is_a_run.Goals as goal

pub returns : goal.returns
returns g c = plays_is_run g.S.SwitchLogic.rule g.M.ManagerLogic.rule g.H.HostLogic.rule
