use Rattle.pl_law_registration.proofs.LeftBySettlings.{rest_registers}
use Rattle.pl_law_registration.proofs.settling_laws.a_fabric_at_rest_has_its_hosts_registered.Goals as goal

pub returns : goal.returns
returns g c = λ plan limits moments new can run rest.
    rest_registers g.S.SwitchLogic.rule g.M.ManagerLogic.rule g.H.HostLogic.rule g.met.S.LooseSwitch.obeys g.met.M.LawfulManager.lawful g.met.H.LawfulHost.lawful
    g.met.H.HostLogic.sends g.met.H.HostLogic.owns plan limits moments new can run rest
