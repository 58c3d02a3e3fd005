use Rattle.pl_law_epochs.proofs.Restarting.{restart_in_order}
use Rattle.pl_law_epochs.proofs.epoch_laws.a_restart_keeps_addresses_in_order.Goals as goal

pub returns : goal.returns
returns c = restart_in_order
