use Rattle.pl_law_runs.proofs.NamedDrops.{drops_for_first_cause}
use Rattle.pl_law_runs.proofs.named_drops.a_switch_drops_frames_for_the_first_cause.Goals as goal

pub returns : goal.returns
returns g c = drops_for_first_cause g.S.SwitchLogic.rule g.M.ManagerLogic.rule g.H.HostLogic.rule g.met.S.SwitchLogic.accounts g.met.S.LooseSwitch.obeys
