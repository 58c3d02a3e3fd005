use Rattle.pl_watch.proofs.LogLaws.{run_of}
use Rattle.pl_watch.proofs.log_laws.a_log_is_of_a_run.Goals as goal

pub returns : goal.returns
returns g c = run_of g.S.SwitchLogic.rule g.M.ManagerLogic.rule g.H.HostLogic.rule
