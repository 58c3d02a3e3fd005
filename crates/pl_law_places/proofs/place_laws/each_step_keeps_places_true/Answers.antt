use Rattle.pl_law_places.proofs.StepsKeepPlaces.{world_step_keeps}
use Rattle.pl_law_places.proofs.place_laws.each_step_keeps_places_true.Goals as goal

pub returns : goal.returns
returns g c = world_step_keeps g.M.ManagerLogic.rule g.H.HostLogic.rule
