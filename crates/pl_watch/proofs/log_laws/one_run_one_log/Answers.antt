use Rattle.pl_watch.proofs.OneLog.{one_log}
use Rattle.pl_watch.proofs.log_laws.one_run_one_log.Goals as goal

pub returns : goal.returns
returns g c = λ switches managers hosts. one_log g.S.SwitchLogic.rule g.M.ManagerLogic.rule g.H.HostLogic.rule switches managers hosts
