use Rattle.pl_law_pods.proofs.NumberingGround.{first_knows}
use Rattle.pl_law_pods.proofs.pod_laws.an_edge_switch_with_position_0_knows_its_pod_at_rest.Goals as goal

pub returns : goal.returns
returns c = first_knows
