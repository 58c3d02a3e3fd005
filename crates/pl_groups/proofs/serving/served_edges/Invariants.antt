use Rattle.std.proofs.Common.{◌≡◌, map, take}
use Rattle.pl_node.specs.ManagerViews.{switches}
use Rattle.pl_groups.specs.Serving.{served_at}
use Rattle.pl_groups.proofs.serving.served_edges.Given as goal

abbrev pub invariant-loop-report : goal.invariant-loop-report
invariant-loop-report l = l.served.items ≡ map (served_at l.reports l.needed) (take l.report-index (switches l.reports))
