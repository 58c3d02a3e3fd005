use Rattle.std.proofs.Common.{reverse, arith}
use Rattle.pl_world.specs.Booting.{booted}
use Rattle.pl_law_invariant.proofs.Exports.{run_lawful}
use Rattle.pl_law_copies.proofs.CopiesInRuns.{came_at_most_once, copies_at_most_came}
use Rattle.pl_law_copies.proofs.TreesInRuns.{run_once}
use Rattle.pl_law_copies.proofs.tree_laws.lawful_logic_lets_one_copy_arrive.Goals as goal

pub returns : goal.returns
returns g c = λ plan limits moments new r there can run.
    let lawful = run_lawful g.S.SwitchLogic.rule g.M.ManagerLogic.rule g.H.HostLogic.rule g.met.S.LooseSwitch.obeys g.met.M.LawfulManager.lawful in
    let most = came_at_most_once new (run_once g.H.HostLogic.rule g.met.H.HostLogic.sends g.met.H.HostLogic.owns plan limits moments new can
    (lawful (booted plan limits) moments new run)).come r there in
    omega (arith, most, copies_at_most_came new.plan (reverse new.journal) r there)
