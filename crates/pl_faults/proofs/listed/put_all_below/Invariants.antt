use Rattle.std.proofs.Common.{◌≡◌, take}
use Rattle.std.specs.Prelude.{fold}
use Rattle.pl_faults.specs.Listed.{with_below}
use Rattle.pl_faults.proofs.listed.put_all_below.Given as goal

abbrev pub invariant-loop-above : goal.invariant-loop-above
invariant-loop-above l = l.list ≡ fold (with_below l.reports l.hearers.entries) l.initial.list (take l.above-index l.turned)
