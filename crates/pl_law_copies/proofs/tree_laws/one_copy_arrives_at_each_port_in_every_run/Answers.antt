use Rattle.std.proofs.Common.{reverse, arith}
use Rattle.pl_law_copies.proofs.CopiesInRuns.{came_at_most_once, copies_at_most_came}
use Rattle.pl_law_copies.proofs.TreesInRuns.{run_once}
use Rattle.pl_law_copies.proofs.tree_laws.one_copy_arrives_at_each_port_in_every_run.Goals as goal

pub returns : goal.returns
returns g c = record {
  frames = λ plan limits moments new r there can run. came_at_most_once new
      (run_once g.H.HostLogic.rule g.met.H.HostLogic.sends g.met.H.HostLogic.owns plan limits moments new can run).come r there;
  copies = λ plan limits moments new r there can run.
      let most = came_at_most_once new (run_once g.H.HostLogic.rule g.met.H.HostLogic.sends g.met.H.HostLogic.owns plan limits moments new can run).come r there in
      omega (arith, most, copies_at_most_came new.plan (reverse new.journal) r there);
}
