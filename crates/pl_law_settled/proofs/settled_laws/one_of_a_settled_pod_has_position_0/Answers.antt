use Rattle.pl_law_settled.proofs.Pods.{settled_first}
use Rattle.pl_law_settled.proofs.settled_laws.one_of_a_settled_pod_has_position_0.Goals as goal

pub returns : goal.returns
returns c = λ w kept placing settled pod whole. settled_first w kept settled placing pod whole
