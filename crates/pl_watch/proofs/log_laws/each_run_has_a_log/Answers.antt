use Rattle.pl_watch.proofs.LogLaws.{log_of_run}
use Rattle.pl_watch.proofs.log_laws.each_run_has_a_log.Goals as goal

pub returns : goal.returns
returns g c = log_of_run g.S.SwitchLogic.rule g.M.ManagerLogic.rule g.H.HostLogic.rule
