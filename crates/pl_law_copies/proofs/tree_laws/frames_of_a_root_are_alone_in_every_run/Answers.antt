use Rattle.pl_law_invariant.proofs.Exports.{run_keeps_all}
use Rattle.pl_law_copies.proofs.Alone.{alone}
use Rattle.pl_law_copies.proofs.TreesInRuns.{run_once}
use Rattle.pl_law_copies.proofs.tree_laws.frames_of_a_root_are_alone_in_every_run.Goals as goal

pub returns : goal.returns
returns g c = λ plan limits moments new can run. alone new
    (run_keeps_all g.H.HostLogic.rule g.met.H.HostLogic.sends g.met.H.HostLogic.owns plan limits moments new can run).counted.formed.plan
    (run_once g.H.HostLogic.rule g.met.H.HostLogic.sends g.met.H.HostLogic.owns plan limits moments new can run).come
