use Rattle.pl_law_invariant.proofs.ExecutionsKeepInvariant.{makes_all_keeps, makes_keeps, ticks_all_keep}
use Rattle.pl_law_invariant.proofs.KeepingControl.{lawful_run_keeps}
use Rattle.pl_law_invariant.proofs.execution_laws.events_in_order_keep_all_of_it.Goals as goal

pub returns-clause-one : goal.returns-clause-one
returns-clause-one g c = makes_keeps g.S.SwitchLogic.rule g.M.ManagerLogic.rule g.H.HostLogic.rule
    (lawful_run_keeps g.H.HostLogic.rule g.met.H.HostLogic.sends g.met.H.HostLogic.owns g.S.SwitchLogic.rule g.M.ManagerLogic.rule g.met.S.LooseSwitch.obeys g.met.M.LawfulManager.lawful)

pub returns-clause-many : goal.returns-clause-many
returns-clause-many g c = makes_all_keeps g.S.SwitchLogic.rule g.M.ManagerLogic.rule g.H.HostLogic.rule
    (lawful_run_keeps g.H.HostLogic.rule g.met.H.HostLogic.sends g.met.H.HostLogic.owns g.S.SwitchLogic.rule g.M.ManagerLogic.rule g.met.S.LooseSwitch.obeys g.met.M.LawfulManager.lawful)

pub returns-clause-ticks : goal.returns-clause-ticks
returns-clause-ticks g c = ticks_all_keep g.S.SwitchLogic.rule g.M.ManagerLogic.rule g.H.HostLogic.rule
    (lawful_run_keeps g.H.HostLogic.rule g.met.H.HostLogic.sends g.met.H.HostLogic.owns g.S.SwitchLogic.rule g.M.ManagerLogic.rule g.met.S.LooseSwitch.obeys g.met.M.LawfulManager.lawful)
