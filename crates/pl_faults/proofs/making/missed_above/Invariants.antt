use Rattle.std.proofs.Common.{◌≡◌, take}
use Rattle.std.specs.Prelude.{fold, []}
use Rattle.pl_faults.specs.Missed.{with_above}
use Rattle.pl_faults.proofs.making.missed_above.Given as goal

abbrev pub invariant-loop-neighbour : goal.invariant-loop-neighbour
invariant-loop-neighbour l =
    l.bits ≡ fold (with_above l.reports l.misses.entries l.fn.level) [] (take l.neighbour-index l.neighbour-items)
