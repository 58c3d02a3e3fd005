use Rattle.pl_law_bridge.proofs.Consequences.{got_at_most_once}
use Rattle.pl_law_bridge.proofs.journal_laws.a_host_that_stays_gets_one_copy.Goals as goal

pub returns : goal.returns
returns c = λ w r h is within. got_at_most_once w is r h within
