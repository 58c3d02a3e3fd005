use Rattle.pl_switch_rule.specs.SwitchRule.{Loose}
use Rattle.pl_switch_rule.proofs.Exports.{loose_steps_are_accounted}
use Rattle.pl_law_control_plane.proofs.KeptInRuns.{run_keeps_hosts}
use Rattle.pl_law_control_plane.proofs.plane_laws.hosts_stand_at_edges_in_every_run.Goals as goal

pub returns : goal.returns
returns g c = run_keeps_hosts Loose g.M.ManagerLogic.rule g.H.HostLogic.rule loose_steps_are_accounted g.met.H.HostLogic.sends
