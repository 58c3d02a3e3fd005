use Rattle.pl_law_epochs.proofs.InPlanes.{plane_first_reported}
use Rattle.pl_law_epochs.proofs.TrapReports.{restart_reported, step_reported}
use Rattle.pl_law_epochs.proofs.trap_laws.traps_are_told_in_reports_alone.Goals as goal

pub returns-clause-first : goal.returns-clause-first
returns-clause-first c = plane_first_reported

pub returns-clause-steps : goal.returns-clause-steps
returns-clause-steps c = λ old new is well reported step. step_reported old new is well reported step.0 step.1

pub returns-clause-restarts : goal.returns-clause-restarts
returns-clause-restarts c = restart_reported
