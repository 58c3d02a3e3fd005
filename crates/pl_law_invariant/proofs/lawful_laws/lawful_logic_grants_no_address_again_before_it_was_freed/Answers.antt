use Rattle.pl_world.specs.Booting.{booted}
use Rattle.pl_law_addresses.proofs.Exports.{granted_at_most_once}
use Rattle.pl_law_invariant.proofs.KeepingControl.{run_keeps_all}
use Rattle.pl_law_invariant.proofs.LawfulRuns.{run_lawful}
use Rattle.pl_law_invariant.proofs.lawful_laws.lawful_logic_grants_no_address_again_before_it_was_freed.Goals as goal

pub returns : goal.returns
returns g c = λ plan limits moments new x can run.
    granted_at_most_once new
    (run_keeps_all g.H.HostLogic.rule g.met.H.HostLogic.sends g.met.H.HostLogic.owns plan limits moments new can
    (run_lawful g.S.SwitchLogic.rule g.M.ManagerLogic.rule g.H.HostLogic.rule g.met.S.LooseSwitch.obeys g.met.M.LawfulManager.lawful
    (booted plan limits) moments new run)).once x
