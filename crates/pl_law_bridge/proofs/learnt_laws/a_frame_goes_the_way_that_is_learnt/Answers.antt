use Rattle.pl_law_bridge.proofs.ExactRuns.{goes_exactly}
use Rattle.pl_law_bridge.proofs.learnt_laws.a_frame_goes_the_way_that_is_learnt.Goals as goal

pub returns : goal.returns
returns g c = λ plan limits before moments more old new last id h from frame way can none run sure over rest.
    goes_exactly g.M.ManagerLogic.rule g.H.HostLogic.rule g.met.H.HostLogic.sends g.met.H.HostLogic.keeps plan limits before moments more old new last id h from frame way can none run sure over rest
