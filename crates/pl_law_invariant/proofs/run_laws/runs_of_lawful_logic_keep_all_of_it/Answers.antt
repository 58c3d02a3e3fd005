use Rattle.pl_law_invariant.proofs.KeepingControl.{lawful_run_keeps}
use Rattle.pl_law_invariant.proofs.run_laws.runs_of_lawful_logic_keep_all_of_it.Goals as goal

pub returns : goal.returns
returns g c = lawful_run_keeps g.H.HostLogic.rule g.met.H.HostLogic.sends g.met.H.HostLogic.owns g.S.SwitchLogic.rule g.M.ManagerLogic.rule g.met.S.LooseSwitch.obeys g.met.M.LawfulManager.lawful
