use Rattle.pl_fabric.proofs.ExecutionRuns.{rounds_are_run}
use Rattle.pl_fabric.proofs.run_laws.the_rounds_of_a_settling_are_a_run.Goals as goal

pub returns : goal.returns
returns g c = rounds_are_run g.S.SwitchLogic.rule g.M.ManagerLogic.rule g.H.HostLogic.rule
