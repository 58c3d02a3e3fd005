use Rattle.pl_law_epochs.proofs.InPlanes.{plane_restart_in_order}
use Rattle.pl_law_epochs.proofs.plane_laws.a_restart_keeps_all_addresses_in_order.Goals as goal

pub returns : goal.returns
returns c = plane_restart_in_order
