use Rattle.pl_law_epochs.proofs.Stepping.{step_in_order}
use Rattle.pl_law_epochs.proofs.epoch_laws.each_step_keeps_addresses_in_order.Goals as goal

pub returns : goal.returns
returns c = step_in_order
