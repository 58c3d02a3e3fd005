use Rattle.pl_law_due.proofs.OnDue.{on_agrees, on_due, on_gathers, on_sized}
use Rattle.pl_law_due.proofs.due_laws.each_step_or_restart_is_one_to_what_is_due.Goals as goal

pub returns-clause-due : goal.returns-clause-due
returns-clause-due c = on_due

pub returns-clause-gathered : goal.returns-clause-gathered
returns-clause-gathered c = on_gathers

pub returns-clause-sized : goal.returns-clause-sized
returns-clause-sized c = on_sized

pub returns-clause-epochs : goal.returns-clause-epochs
returns-clause-epochs c = on_agrees
