use Rattle.pl_world.proofs.StepBalances.{step_is_counted}
use Rattle.pl_world.proofs.world_laws.each_step_keeps_its_frames_in_order.Goals as goal

pub returns : goal.returns
returns g c = step_is_counted g.S.SwitchLogic.rule g.M.ManagerLogic.rule g.H.HostLogic.rule g.met.S.SwitchLogic.accounts g.met.H.HostLogic.sends
