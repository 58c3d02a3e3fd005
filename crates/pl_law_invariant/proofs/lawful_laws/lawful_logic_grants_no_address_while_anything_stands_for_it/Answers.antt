use Rattle.pl_world.specs.Booting.{booted}
use Rattle.pl_law_invariant.proofs.GrantsInRuns.{granted_for_nothing}
use Rattle.pl_law_invariant.proofs.LawfulRuns.{run_lawful}
use Rattle.pl_law_invariant.proofs.lawful_laws.lawful_logic_grants_no_address_while_anything_stands_for_it.Goals as goal

pub returns : goal.returns
returns g c = λ plan limits moments more old new x can run rest given freed.
    let lawful = run_lawful g.S.SwitchLogic.rule g.M.ManagerLogic.rule g.H.HostLogic.rule g.met.S.LooseSwitch.obeys g.met.M.LawfulManager.lawful in
    granted_for_nothing g.H.HostLogic.rule g.met.H.HostLogic.sends g.met.H.HostLogic.owns plan limits can moments more old new
    (lawful (booted plan limits) moments old run) (lawful old more new rest) x given freed
