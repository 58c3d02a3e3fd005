use Rattle.std.proofs.Common.{take}
use Rattle.pl_faults.proofs.Apart.{AreSeen}
use Rattle.pl_faults.proofs.edges.are_apart.Given as goal

abbrev pub invariant-loop-edge : goal.invariant-loop-edge
invariant-loop-edge l = AreSeen l.seen.words (take l.edge-index l.edges)
