use Rattle.pl_law_settled.proofs.Pods.{settled_positions}
use Rattle.pl_law_settled.proofs.settled_laws.edge_switches_of_a_settled_pod_have_positions.Goals as goal

pub returns : goal.returns
returns c = λ w kept placing settled pod whole. settled_positions w kept settled placing pod whole
