use Rattle.pl_law_epochs.proofs.Beginning.{first_in_order}
use Rattle.pl_law_epochs.proofs.epoch_laws.addresses_begin_in_order.Goals as goal

pub returns : goal.returns
returns c = first_in_order
