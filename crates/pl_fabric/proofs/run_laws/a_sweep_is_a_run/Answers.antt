use Rattle.pl_fabric.proofs.ExecutionRuns.{sweep_is_run}
use Rattle.pl_fabric.proofs.run_laws.a_sweep_is_a_run.Goals as goal

pub returns : goal.returns
returns g c = sweep_is_run g.S.SwitchLogic.rule g.M.ManagerLogic.rule g.H.HostLogic.rule
