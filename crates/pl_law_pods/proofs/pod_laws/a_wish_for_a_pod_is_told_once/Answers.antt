use Rattle.pl_law_pods.proofs.WishesTold.{step_asks_once}
use Rattle.pl_law_pods.proofs.pod_laws.a_wish_for_a_pod_is_told_once.Goals as goal

pub returns : goal.returns
returns c = step_asks_once
