use Rattle.pl_world.specs.Booting.{booted}
use Rattle.pl_law_invariant.proofs.Exports.{run_lawful}
use Rattle.pl_law_registration.proofs.Registered.{run_registers}
use Rattle.pl_law_registration.proofs.registration_laws.lawful_logic_registers_hosts_at_rest.Goals as goal

pub returns : goal.returns
returns g c = λ plan limits moments new can run.
    run_registers g.H.HostLogic.rule g.met.H.LawfulHost.lawful g.met.H.HostLogic.sends g.met.H.HostLogic.owns plan limits moments new can
    (run_lawful g.S.SwitchLogic.rule g.M.ManagerLogic.rule g.H.HostLogic.rule g.met.S.LooseSwitch.obeys g.met.M.LawfulManager.lawful (booted plan limits) moments new run)
