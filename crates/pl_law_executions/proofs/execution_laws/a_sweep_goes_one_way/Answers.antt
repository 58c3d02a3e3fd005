use Rattle.pl_law_executions.proofs.OneWayOfExecutions.{sweeps_one_way}
use Rattle.pl_law_executions.proofs.execution_laws.a_sweep_goes_one_way.Goals as goal

pub returns : goal.returns
returns g c = sweeps_one_way g.S.SwitchLogic.rule g.M.ManagerLogic.rule g.H.HostLogic.rule
