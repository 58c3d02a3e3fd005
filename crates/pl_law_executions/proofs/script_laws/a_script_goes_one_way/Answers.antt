use Rattle.pl_law_executions.proofs.OneEnd.{plays_one_way}
use Rattle.pl_law_executions.proofs.script_laws.a_script_goes_one_way.Goals as goal

pub returns : goal.returns
returns g c = plays_one_way g.S.SwitchLogic.rule g.M.ManagerLogic.rule g.H.HostLogic.rule
