use Rattle.std.proofs.Common.{◌≡◌, drop}
use Rattle.pl_topology.specs.Checks.{joins_the_tree}
use Rattle.pl_topology.specs.Refusal.{each}
use Rattle.pl_topology.proofs.adjacent.join_the_tree.Given as goal

abbrev pub invariant-loop-entry : goal.invariant-loop-entry
invariant-loop-entry l = each (joins_the_tree l.k) (drop l.entry-index l.entries) ≡ each (joins_the_tree l.k) l.entries
