use Rattle.std.proofs.Common.{◌≡◌, take}
use Rattle.std.specs.Prelude.{fold}
use Rattle.pl_faults.specs.Listed.{with_beside}
use Rattle.pl_faults.proofs.listed.beside.Given as goal

abbrev pub invariant-loop-switch : goal.invariant-loop-switch
invariant-loop-switch l = l.all ≡ fold (with_beside l.reports) l.list (take l.switch-index l.switches)
