use Rattle.pl_law_runs.proofs.Determined.{steps_agree}
use Rattle.pl_law_runs.proofs.determined_runs.rules_that_leave_no_choice_determine_a_step.Goals as goal

pub returns : goal.returns
returns g c = steps_agree g.S.SwitchLogic.rule g.M.ManagerLogic.rule g.H.HostLogic.rule
