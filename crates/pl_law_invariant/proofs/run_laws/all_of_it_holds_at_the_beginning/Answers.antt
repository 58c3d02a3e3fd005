use Rattle.pl_law_invariant.proofs.KeepingControl.{kept_at_first}
use Rattle.pl_law_invariant.proofs.run_laws.all_of_it_holds_at_the_beginning.Goals as goal

pub returns : goal.returns
returns c = kept_at_first
