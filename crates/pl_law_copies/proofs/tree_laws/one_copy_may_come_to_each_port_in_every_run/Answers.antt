use Rattle.pl_law_copies.proofs.TreesInRuns.{run_once}
use Rattle.pl_law_copies.proofs.tree_laws.one_copy_may_come_to_each_port_in_every_run.Goals as goal

pub returns : goal.returns
returns g c = λ plan limits moments new can run. (run_once g.H.HostLogic.rule g.met.H.HostLogic.sends g.met.H.HostLogic.owns plan limits moments new can run).come
