use Rattle.pl_law_records.proofs.Last.{current_at_rest}
use Rattle.pl_law_records.proofs.record_laws.records_are_current_at_rest.Goals as goal

pub returns : goal.returns
returns c = current_at_rest
