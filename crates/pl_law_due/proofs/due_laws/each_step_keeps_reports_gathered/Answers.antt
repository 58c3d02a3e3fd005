use Rattle.pl_law_due.proofs.Stepping.{step_gathers}
use Rattle.pl_law_due.proofs.due_laws.each_step_keeps_reports_gathered.Goals as goal

pub returns : goal.returns
returns c = λ old new is well step. step_gathers old new is well step.0 step.1
