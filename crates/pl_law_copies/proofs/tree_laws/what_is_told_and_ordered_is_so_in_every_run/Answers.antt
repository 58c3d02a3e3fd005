use Rattle.pl_law_invariant.proofs.Exports.{run_keeps_all}
use Rattle.pl_law_copies.proofs.DueTrees.{restart_trees}
use Rattle.pl_law_copies.proofs.TreesInRuns.{know_trees, run_once}
use Rattle.pl_law_copies.proofs.tree_laws.what_is_told_and_ordered_is_so_in_every_run.Goals as goal

pub returns : goal.returns
returns g c = record {
  trees = λ plan limits moments new can run. (run_once g.H.HostLogic.rule g.met.H.HostLogic.sends g.met.H.HostLogic.owns plan limits moments new can run).trees;
  restarts = restart_trees;
  around = λ plan limits moments new can run. know_trees new
      (run_keeps_all g.H.HostLogic.rule g.met.H.HostLogic.sends g.met.H.HostLogic.owns plan limits moments new can run)
      (run_once g.H.HostLogic.rule g.met.H.HostLogic.sends g.met.H.HostLogic.owns plan limits moments new can run).trees;
}
