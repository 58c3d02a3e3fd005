use Rattle.pl_law_records.proofs.RecordsInRuns.{ordered_at_first, reported_at_first}
use Rattle.pl_law_records.proofs.record_laws.the_records_begin_current.Goals as goal

pub returns-clause-reports : goal.returns-clause-reports
returns-clause-reports c = reported_at_first

pub returns-clause-orders : goal.returns-clause-orders
returns-clause-orders c = ordered_at_first
