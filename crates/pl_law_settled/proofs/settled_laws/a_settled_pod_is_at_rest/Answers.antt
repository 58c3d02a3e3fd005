use Rattle.pl_law_settled.proofs.Pods.{resting_pod}
use Rattle.pl_law_settled.proofs.settled_laws.a_settled_pod_is_at_rest.Goals as goal

pub returns : goal.returns
returns c = λ w kept placing settled pod whole. resting_pod w kept settled placing pod whole
