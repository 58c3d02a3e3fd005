use Rattle.pl_law_placing.proofs.AtRest.{world_pods}
use Rattle.pl_law_placing.proofs.placing_laws.edge_switches_of_a_pod_at_rest_know_the_pod.Goals as goal

pub returns : goal.returns
returns c = world_pods
