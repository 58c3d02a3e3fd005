use Rattle.pl_law_registration.proofs.LeftBySettlings.{settling_registers}
use Rattle.pl_law_registration.proofs.settling_laws.a_settling_leaves_hosts_registered.Goals as goal

pub returns : goal.returns
returns g c = λ plan limits moments old asked answer new can run settling fewer.
    settling_registers g.S.SwitchLogic.rule g.M.ManagerLogic.rule g.H.HostLogic.rule g.met.S.LooseSwitch.obeys g.met.M.LawfulManager.lawful g.met.H.LawfulHost.lawful
    g.met.H.HostLogic.sends g.met.H.HostLogic.owns plan limits moments old asked answer new can run settling fewer
