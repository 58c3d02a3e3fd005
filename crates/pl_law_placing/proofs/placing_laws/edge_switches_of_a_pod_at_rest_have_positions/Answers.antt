use Rattle.pl_law_placing.proofs.AtRest.{world_positions}
use Rattle.pl_law_placing.proofs.placing_laws.edge_switches_of_a_pod_at_rest_have_positions.Goals as goal

pub returns : goal.returns
returns c = world_positions
