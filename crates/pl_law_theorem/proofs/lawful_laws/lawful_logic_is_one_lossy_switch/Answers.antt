use Rattle.pl_world.specs.Booting.{booted}
use Rattle.pl_law_invariant.proofs.Exports.{run_lawful}
use Rattle.pl_law_members.proofs.Exports.{lawful_hosts_keep}
use Rattle.pl_law_theorem.proofs.Grouping.{groups_are_well}
use Rattle.pl_law_theorem.proofs.JournalInRuns.{journaled_in_run}
use Rattle.pl_law_theorem.proofs.lawful_laws.lawful_logic_is_one_lossy_switch.Goals as goal

pub returns-clause-run : goal.returns-clause-run
returns-clause-run g c = λ plan limits moments new can run few.
    (journaled_in_run g.H.HostLogic.rule g.met.H.HostLogic.sends g.met.H.HostLogic.owns g.met.H.HostLogic.keeps plan limits can
    (groups_are_well g.H.HostLogic.rule g.met.H.HostLogic.sends g.met.H.HostLogic.owns g.met.H.HostLogic.joins
    (lawful_hosts_keep g.H.HostLogic.rule g.met.H.LawfulHost.lawful) plan limits can) moments new
    (run_lawful g.S.SwitchLogic.rule g.M.ManagerLogic.rule g.H.HostLogic.rule g.met.S.LooseSwitch.obeys g.met.M.LawfulManager.lawful
    (booted plan limits) moments new run) few).run

pub returns-clause-trails : goal.returns-clause-trails
returns-clause-trails g c = λ plan limits moments new can run few.
    (journaled_in_run g.H.HostLogic.rule g.met.H.HostLogic.sends g.met.H.HostLogic.owns g.met.H.HostLogic.keeps plan limits can
    (groups_are_well g.H.HostLogic.rule g.met.H.HostLogic.sends g.met.H.HostLogic.owns g.met.H.HostLogic.joins
    (lawful_hosts_keep g.H.HostLogic.rule g.met.H.LawfulHost.lawful) plan limits can) moments new
    (run_lawful g.S.SwitchLogic.rule g.M.ManagerLogic.rule g.H.HostLogic.rule g.met.S.LooseSwitch.obeys g.met.M.LawfulManager.lawful
    (booted plan limits) moments new run) few).trail
