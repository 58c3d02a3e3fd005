use Rattle.std.proofs.Common.{◌≡◌, take}
use Rattle.pl_faults.specs.Listed.{with_all}
use Rattle.pl_faults.proofs.listed.put_all.Given as goal

abbrev pub invariant-loop-switch : goal.invariant-loop-switch
invariant-loop-switch l = l.list ≡ with_all l.initial.list (take l.switch-index l.more)
