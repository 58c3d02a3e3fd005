use Rattle.pl_law_invariant.proofs.LawfulRuns.{run_lawful}
use Rattle.pl_law_invariant.proofs.lawful_laws.each_run_of_lawful_logic_is_a_run_of_the_rules.Goals as goal

pub returns : goal.returns
returns g c = run_lawful g.S.SwitchLogic.rule g.M.ManagerLogic.rule g.H.HostLogic.rule g.met.S.LooseSwitch.obeys g.met.M.LawfulManager.lawful
