use Rattle.pl_world.specs.Booting.{booted}
use Rattle.pl_law_invariant.proofs.Exports.{run_lawful}
use Rattle.pl_law_arrival.proofs.Arriving.{arrives}
use Rattle.pl_law_arrival.proofs.Cores.{sure_lawful}
use Rattle.pl_law_arrival.proofs.arrival_laws.a_sure_frame_that_ends_has_arrived.Goals as goal

pub returns : goal.returns
returns g c = λ plan limits before moments sent new id h k can run sure over.
    arrives g.H.HostLogic.rule g.met.H.HostLogic.sends g.met.H.HostLogic.owns g.met.H.HostLogic.keeps plan limits can before sent
    (run_lawful g.S.SwitchLogic.rule g.M.ManagerLogic.rule g.H.HostLogic.rule g.met.S.LooseSwitch.obeys g.met.M.LawfulManager.lawful (booted plan limits) before sent run)
    id h k moments new (sure_lawful g.S.SwitchLogic.rule g.M.ManagerLogic.rule g.H.HostLogic.rule g.met.S.LooseSwitch.obeys g.met.M.LawfulManager.lawful sent moments new id h k sure) over
