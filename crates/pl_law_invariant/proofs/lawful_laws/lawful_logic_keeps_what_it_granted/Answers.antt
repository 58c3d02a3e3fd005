use Rattle.pl_world.specs.Booting.{booted}
use Rattle.pl_law_invariant.proofs.GrantsInRuns.{stay_granted}
use Rattle.pl_law_invariant.proofs.LawfulRuns.{run_lawful}
use Rattle.pl_law_invariant.proofs.lawful_laws.lawful_logic_keeps_what_it_granted.Goals as goal

pub returns : goal.returns
returns g c = λ plan limits moments more old new can run rest.
    let lawful = run_lawful g.S.SwitchLogic.rule g.M.ManagerLogic.rule g.H.HostLogic.rule g.met.S.LooseSwitch.obeys g.met.M.LawfulManager.lawful in
    stay_granted g.H.HostLogic.rule g.met.H.HostLogic.sends g.met.H.HostLogic.owns plan limits can moments more old new
    (lawful (booted plan limits) moments old run) (lawful old more new rest)
