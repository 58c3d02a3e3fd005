use Rattle.pl_queue_array.proofs.TallyChanges.{IsRenewed}
use Rattle.pl_queue_array.proofs.tally.put_leaf.Given as goal

abbrev pub invariant-loop-node : goal.invariant-loop-node
invariant-loop-node l = IsRenewed l.width l.fn.tree.items l.tree.items l.at l.count l.node

abbrev pub decreases-loop-node : goal.decreases-loop-node
decreases-loop-node l = l.node
