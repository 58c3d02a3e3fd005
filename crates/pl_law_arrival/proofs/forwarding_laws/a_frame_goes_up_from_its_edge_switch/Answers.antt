use Rattle.pl_law_arrival.proofs.GoingOn.{from_edge}
use Rattle.pl_law_arrival.proofs.forwarding_laws.a_frame_goes_up_from_its_edge_switch.Goals as goal

pub returns : goal.returns
returns c = from_edge
