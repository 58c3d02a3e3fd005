use Rattle.pl_law_addresses.proofs.OwnRuns.{step_own}
use Rattle.pl_law_addresses.proofs.own_frames.each_step_keeps_frames_with_their_hosts.Goals as goal

pub returns : goal.returns
returns g c = λ old event new counted step o.
    step_own g.S.SwitchLogic.rule g.M.ManagerLogic.rule g.H.HostLogic.rule g.met.H.HostLogic.sends g.met.H.HostLogic.owns old event new counted step o
