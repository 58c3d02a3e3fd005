use Rattle.std.proofs.Common.{◌-◌, length}
use Rattle.pl_verify.specs.Judged.{IsReadTo}
use Rattle.pl_verify.proofs.verifying.hear_all.Given as goal

abbrev pub invariant-loop-at : goal.invariant-loop-at
invariant-loop-at l = IsReadTo l.wiring l.journal l.at l.judge

abbrev pub decreases-loop-at : goal.decreases-loop-at
decreases-loop-at l = length l.journal - l.at
