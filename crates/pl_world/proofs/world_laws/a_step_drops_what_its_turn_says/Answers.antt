use Rattle.pl_world.proofs.Drops.{step_drops}
use Rattle.pl_world.proofs.world_laws.a_step_drops_what_its_turn_says.Goals as goal

pub returns-clause-drops : goal.returns-clause-drops
returns-clause-drops g c = λ old happens new step plan. (step_drops g.S.SwitchLogic.rule g.M.ManagerLogic.rule g.H.HostLogic.rule old happens new step plan).0

pub returns-clause-makes : goal.returns-clause-makes
returns-clause-makes g c = λ old happens new step plan. (step_drops g.S.SwitchLogic.rule g.M.ManagerLogic.rule g.H.HostLogic.rule old happens new step plan).1
