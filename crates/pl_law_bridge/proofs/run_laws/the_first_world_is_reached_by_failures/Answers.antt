use Rattle.pl_law_bridge.proofs.Failures.{reached_by_failures}
use Rattle.pl_law_bridge.proofs.run_laws.the_first_world_is_reached_by_failures.Goals as goal

pub returns : goal.returns
returns g c = reached_by_failures g.S.SwitchLogic.rule g.M.ManagerLogic.rule g.H.HostLogic.rule
