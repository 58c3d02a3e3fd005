use Rattle.std.proofs.Common.{◌≡◌, take}
use Rattle.std.specs.Prelude.{fold}
use Rattle.pl_faults.specs.Listed.{with_lower}
use Rattle.pl_faults.proofs.listed.put_below.Given as goal

abbrev pub invariant-loop-switch : goal.invariant-loop-switch
invariant-loop-switch l = l.list ≡ fold (with_lower l.reports l.fn.above) l.initial.list (take l.switch-index l.hearers)
