use Rattle.pl_law_epochs.proofs.Consequences.{registered_held}
use Rattle.pl_law_epochs.proofs.epoch_laws.a_registered_address_is_held.Goals as goal

pub returns : goal.returns
returns c = registered_held
