use Rattle.pl_law_settled.proofs.Epochs.{epoch_heard, reports_heard}
use Rattle.pl_law_settled.proofs.settled_laws.no_report_is_missing_where_queues_are_settled.Goals as goal

pub returns-clause-epochs : goal.returns-clause-epochs
returns-clause-epochs c = epoch_heard

pub returns-clause-reports : goal.returns-clause-reports
returns-clause-reports c = reports_heard
