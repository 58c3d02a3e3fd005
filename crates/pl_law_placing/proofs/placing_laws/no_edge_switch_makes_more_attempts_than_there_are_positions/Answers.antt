use Rattle.pl_law_placing.proofs.AtRest.{few_attempts}
use Rattle.pl_law_placing.proofs.placing_laws.no_edge_switch_makes_more_attempts_than_there_are_positions.Goals as goal

pub returns : goal.returns
returns c = few_attempts
