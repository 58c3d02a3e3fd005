use Rattle.pl_law_epochs.proofs.InWorlds.{world_in_order}
use Rattle.pl_law_epochs.proofs.world_laws.each_step_of_a_world_keeps_addresses_in_order.Goals as goal

pub returns : goal.returns
returns g c = world_in_order g.H.HostLogic.rule
