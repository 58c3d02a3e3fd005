use Rattle.pl_world.specs.Booting.{booted}
use Rattle.pl_law_invariant.proofs.Exports.{run_lawful}
use Rattle.pl_law_arrival.proofs.Orders.{run_is_orderly}
use Rattle.pl_law_arrival.proofs.arrival_laws.each_run_is_orderly.Goals as goal

pub returns : goal.returns
returns g c = λ plan limits moments new can run.
    run_is_orderly g.H.HostLogic.rule g.met.H.HostLogic.sends g.met.H.HostLogic.owns plan limits moments new can
    (run_lawful g.S.SwitchLogic.rule g.M.ManagerLogic.rule g.H.HostLogic.rule g.met.S.LooseSwitch.obeys g.met.M.LawfulManager.lawful (booted plan limits) moments new run)
