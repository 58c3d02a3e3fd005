use Rattle.pl_law_due.proofs.Restarting.{restart_due, restart_gathers}
use Rattle.pl_law_due.proofs.due_laws.a_restart_makes_nothing_due.Goals as goal

pub returns-clause-due : goal.returns-clause-due
returns-clause-due c = restart_due

pub returns-clause-gathered : goal.returns-clause-gathered
returns-clause-gathered c = restart_gathers
