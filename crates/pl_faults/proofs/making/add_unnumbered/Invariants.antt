use Rattle.std.proofs.Common.{◌≡◌, take}
use Rattle.std.specs.Prelude.{fold}
use Rattle.pl_faults.specs.Missed.{with_unnumbered}
use Rattle.pl_faults.proofs.making.add_unnumbered.Given as goal

abbrev pub invariant-loop-edge : goal.invariant-loop-edge
invariant-loop-edge l = l.list ≡ fold (with_unnumbered l.neighbour) l.initial.list (take l.edge-index l.missed)
