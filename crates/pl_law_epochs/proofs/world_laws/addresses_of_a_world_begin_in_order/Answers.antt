use Rattle.pl_law_epochs.proofs.InWorlds.{world_first_in_order}
use Rattle.pl_law_epochs.proofs.world_laws.addresses_of_a_world_begin_in_order.Goals as goal

pub returns : goal.returns
returns c = world_first_in_order
