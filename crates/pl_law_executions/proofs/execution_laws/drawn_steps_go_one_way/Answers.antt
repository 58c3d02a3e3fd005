use Rattle.pl_law_executions.proofs.OneWayOfExecutions.{draws_one_way}
use Rattle.pl_law_executions.proofs.execution_laws.drawn_steps_go_one_way.Goals as goal

pub returns : goal.returns
returns g c = draws_one_way g.S.SwitchLogic.rule g.M.ManagerLogic.rule g.H.HostLogic.rule
