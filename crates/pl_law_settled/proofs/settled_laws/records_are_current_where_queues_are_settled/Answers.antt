use Rattle.pl_law_settled.proofs.Records.{are_current, links_current}
use Rattle.pl_law_settled.proofs.settled_laws.records_are_current_where_queues_are_settled.Goals as goal

pub returns-clause-places : goal.returns-clause-places
returns-clause-places c = are_current

pub returns-clause-links : goal.returns-clause-links
returns-clause-links c = links_current
