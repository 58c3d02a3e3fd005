use Rattle.pl_law_due.proofs.Beginning.{agree_at_first}
use Rattle.pl_law_due.proofs.Epochs.{restart_agrees, step_agrees}
use Rattle.pl_law_due.proofs.due_laws.the_epoch_of_a_switch_is_the_managers_where_it_is_not_silent.Goals as goal

pub returns-clause-first : goal.returns-clause-first
returns-clause-first c = agree_at_first

pub returns-clause-steps : goal.returns-clause-steps
returns-clause-steps c = λ old new is well agree step. step_agrees old new is well agree step.0 step.1

pub returns-clause-restarts : goal.returns-clause-restarts
returns-clause-restarts c = restart_agrees
