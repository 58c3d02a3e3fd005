use Rattle.pl_law_settled.proofs.Placed.{settled_first_pod, settled_pods}
use Rattle.pl_law_settled.proofs.settled_laws.edge_switches_of_a_settled_pod_know_the_pod.Goals as goal

pub returns-clause-first : goal.returns-clause-first
returns-clause-first c = settled_first_pod

pub returns-clause-all : goal.returns-clause-all
returns-clause-all c = settled_pods
