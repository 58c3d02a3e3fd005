use Rattle.pl_law_bridge.proofs.Keeping.{step_keeps}
use Rattle.pl_law_bridge.proofs.run_laws.each_step_keeps_to_the_tree.Goals as goal

pub returns : goal.returns
returns g c = step_keeps g.M.ManagerLogic.rule g.H.HostLogic.rule g.met.H.HostLogic.sends
