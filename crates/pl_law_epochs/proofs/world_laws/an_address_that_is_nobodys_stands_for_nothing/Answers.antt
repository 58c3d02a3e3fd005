use Rattle.pl_law_epochs.proofs.ForNothing.{nobodys_for_nothing}
use Rattle.pl_law_epochs.proofs.world_laws.an_address_that_is_nobodys_stands_for_nothing.Goals as goal

pub returns : goal.returns
returns c = nobodys_for_nothing
