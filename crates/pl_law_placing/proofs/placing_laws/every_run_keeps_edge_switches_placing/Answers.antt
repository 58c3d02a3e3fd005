use Rattle.pl_law_placing.proofs.PlacingInRuns.{run_places}
use Rattle.pl_law_placing.proofs.placing_laws.every_run_keeps_edge_switches_placing.Goals as goal

pub returns : goal.returns
returns g c = run_places g.H.HostLogic.rule g.met.H.HostLogic.sends g.met.H.HostLogic.owns
