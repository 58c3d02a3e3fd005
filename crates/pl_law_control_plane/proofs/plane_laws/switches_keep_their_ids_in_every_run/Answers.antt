use Rattle.pl_switch_rule.specs.SwitchRule.{Loose}
use Rattle.pl_switch_rule.proofs.Exports.{loose_steps_are_accounted}
use Rattle.pl_law_control_plane.proofs.Naming.{ids_in_runs}
use Rattle.pl_law_control_plane.proofs.plane_laws.switches_keep_their_ids_in_every_run.Goals as goal

pub returns : goal.returns
returns g c = ids_in_runs Loose g.M.ManagerLogic.rule g.H.HostLogic.rule loose_steps_are_accounted g.met.H.HostLogic.sends
