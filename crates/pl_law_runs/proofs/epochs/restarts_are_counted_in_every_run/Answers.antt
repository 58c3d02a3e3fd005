use Rattle.pl_law_runs.proofs.RestartsCounted.{run_counts}
use Rattle.pl_law_runs.proofs.epochs.restarts_are_counted_in_every_run.Goals as goal

pub returns : goal.returns
returns g c = run_counts g.S.SwitchLogic.rule g.M.ManagerLogic.rule g.H.HostLogic.rule g.met.M.ManagerLogic.answers
