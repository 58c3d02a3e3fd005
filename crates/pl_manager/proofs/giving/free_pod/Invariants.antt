use Rattle.std.proofs.Common.{◌≡◌, ◌<◌, ℕ, true}
use Rattle.pl_node.specs.ManagerViews.{is_taken}
use Rattle.pl_manager.proofs.giving.free_pod.Given as goal

-- each smaller number is taken
abbrev pub invariant-loop-pod : goal.invariant-loop-pod
invariant-loop-pod l = (k : ℕ) → k < l.pod → is_taken l.reports l.askers k ≡ true
