use Rattle.pl_law_records.proofs.RecordsInRuns.{step_reported}
use Rattle.pl_law_records.proofs.Reporting.{due_reported, restart_reported}
use Rattle.pl_law_records.proofs.record_laws.each_step_keeps_reports.Goals as goal

pub returns-clause-steps : goal.returns-clause-steps
returns-clause-steps g c = step_reported g.H.HostLogic.rule

pub returns-clause-epochs : goal.returns-clause-epochs
returns-clause-epochs g c = λ old new is unheard step told. due_reported old new is unheard told step

pub returns-clause-restarts : goal.returns-clause-restarts
returns-clause-restarts g c = restart_reported
