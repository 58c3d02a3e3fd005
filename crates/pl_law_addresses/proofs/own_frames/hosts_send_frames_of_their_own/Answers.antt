use Rattle.pl_law_addresses.proofs.OwnRuns.{run_own}
use Rattle.pl_law_addresses.proofs.own_frames.hosts_send_frames_of_their_own.Goals as goal

pub returns : goal.returns
returns g c = λ plan limits moments new can run.
    run_own g.S.SwitchLogic.rule g.M.ManagerLogic.rule g.H.HostLogic.rule g.met.H.HostLogic.sends g.met.H.HostLogic.owns g.met.S.SwitchLogic.accounts plan limits can moments new run
