use Rattle.pl_law_copies.proofs.CopiesInRuns.{step_once}
use Rattle.pl_law_copies.proofs.copy_laws.each_step_lets_one_copy_come.Goals as goal

pub returns : goal.returns
returns g c = step_once g.M.ManagerLogic.rule g.H.HostLogic.rule
