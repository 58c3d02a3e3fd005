use Rattle.pl_law_epochs.proofs.InPlanes.{plane_in_order}
use Rattle.pl_law_epochs.proofs.plane_laws.each_step_of_the_control_plane_keeps_addresses_in_order.Goals as goal

pub returns : goal.returns
returns c = plane_in_order
