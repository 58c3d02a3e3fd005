use Rattle.pl_switch_rule.specs.SwitchRule.{Loose}
use Rattle.pl_switch_rule.proofs.Exports.{loose_steps_are_accounted}
use Rattle.pl_law_control_plane.proofs.StepsOfPlane.{step_on_plane}
use Rattle.pl_law_control_plane.proofs.plane_laws.each_step_is_one_of_the_control_plane.Goals as goal

pub returns : goal.returns
returns g c = step_on_plane Loose g.M.ManagerLogic.rule g.H.HostLogic.rule loose_steps_are_accounted
