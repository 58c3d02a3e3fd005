use Rattle.pl_law_due.proofs.Beginning.{gathers_at_first}
use Rattle.pl_law_due.proofs.due_laws.nothing_is_missing_at_the_beginning.Goals as goal

pub returns : goal.returns
returns c = gathers_at_first
