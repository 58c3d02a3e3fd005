use Rattle.pl_law_copies.proofs.CopiesInRuns.{once_at_first}
use Rattle.pl_law_copies.proofs.copy_laws.no_copy_is_on_its_way_at_first.Goals as goal

pub returns : goal.returns
returns c = once_at_first
