use Rattle.pl_law_due.proofs.Stepping.{step_due}
use Rattle.pl_law_due.proofs.due_laws.each_step_is_one_to_what_is_due.Goals as goal

pub returns : goal.returns
returns c = λ old new is well step. step_due old new is well step.0 step.1
