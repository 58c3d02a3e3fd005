use Rattle.pl_fabric.proofs.ExecutionRuns.{draws_are_run}
use Rattle.pl_fabric.proofs.run_laws.drawn_steps_are_a_run.Goals as goal

pub returns : goal.returns
returns g c = draws_are_run g.S.SwitchLogic.rule g.M.ManagerLogic.rule g.H.HostLogic.rule
