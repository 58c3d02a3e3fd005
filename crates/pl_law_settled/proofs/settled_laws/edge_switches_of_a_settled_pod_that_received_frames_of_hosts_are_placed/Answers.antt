use Rattle.pl_law_settled.proofs.Placed.{receivers_placed}
use Rattle.pl_law_settled.proofs.settled_laws.edge_switches_of_a_settled_pod_that_received_frames_of_hosts_are_placed.Goals as goal

pub returns : goal.returns
returns c = receivers_placed
