use Rattle.pl_law_placing.proofs.PlacingInRuns.{step_places}
use Rattle.pl_law_placing.proofs.placing_laws.each_step_keeps_edge_switches_placing.Goals as goal

pub returns : goal.returns
returns g c = step_places g.H.HostLogic.rule
