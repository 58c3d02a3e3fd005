use Rattle.pl_law_placing.proofs.AtRest.{world_first}
use Rattle.pl_law_placing.proofs.placing_laws.one_of_a_pod_at_rest_has_position_0.Goals as goal

pub returns : goal.returns
returns c = world_first
