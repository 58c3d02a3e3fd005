use Rattle.pl_law_invariant.proofs.ExecutionsKeepInvariant.{settles_keeps}
use Rattle.pl_law_invariant.proofs.KeepingControl.{lawful_run_keeps}
use Rattle.pl_law_invariant.proofs.execution_laws.a_settling_keeps_all_of_it.Goals as goal

pub returns : goal.returns
returns g c = settles_keeps g.S.SwitchLogic.rule g.M.ManagerLogic.rule g.H.HostLogic.rule
    (lawful_run_keeps g.H.HostLogic.rule g.met.H.HostLogic.sends g.met.H.HostLogic.owns g.S.SwitchLogic.rule g.M.ManagerLogic.rule g.met.S.LooseSwitch.obeys g.met.M.LawfulManager.lawful)
