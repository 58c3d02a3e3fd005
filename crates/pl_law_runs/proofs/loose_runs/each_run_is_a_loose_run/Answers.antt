use Rattle.pl_switch_rule.specs.SwitchRule.{Loose}
use Rattle.pl_world.proofs.Exports.{run_looser}
use Rattle.pl_law_runs.proofs.loose_runs.each_run_is_a_loose_run.Goals as goal

pub returns : goal.returns
returns g c = run_looser g.S.SwitchLogic.rule Loose g.M.ManagerLogic.rule g.H.HostLogic.rule g.met.S.LooseSwitch.obeys
