use Rattle.std.proofs.Common.{◌≡◌, ◌-◌, ◌<◌, ◌≤◌}
use Rattle.pl_queue_array.specs.Tallies.{leaves_of}
use Rattle.pl_queue_array.proofs.tally.Shape.of.Given as goal

abbrev pub invariant-loop-width : goal.invariant-loop-width
invariant-loop-width l = (l.width ≡ leaves_of l.levels) × (l.levels < l.width) × (l.width ≤ 2199023255552)

abbrev pub decreases-loop-width : goal.decreases-loop-width
decreases-loop-width l = l.len - l.width
