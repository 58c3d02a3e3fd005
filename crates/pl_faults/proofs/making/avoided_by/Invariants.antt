use Rattle.std.proofs.Common.{◌≡◌, take}
use Rattle.std.specs.Prelude.{fold, []}
use Rattle.pl_faults.specs.Making.{with_neighbour}
use Rattle.pl_faults.specs.Missed.{IsLeading}
use Rattle.pl_faults.proofs.making.avoided_by.Given as goal

abbrev pub invariant-loop-neighbour : goal.invariant-loop-neighbour
invariant-loop-neighbour l =
    IsLeading l.reports l.leading → l.list ≡ fold (with_neighbour l.reports l.switch) [] (take l.neighbour-index l.neighbour-items)
