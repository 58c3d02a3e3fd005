use Rattle.pl_law_runs.proofs.Determined.{runs_agree}
use Rattle.pl_law_runs.proofs.determined_runs.rules_that_leave_no_choice_determine_a_run.Goals as goal

pub returns : goal.returns
returns g c = runs_agree g.S.SwitchLogic.rule g.M.ManagerLogic.rule g.H.HostLogic.rule
