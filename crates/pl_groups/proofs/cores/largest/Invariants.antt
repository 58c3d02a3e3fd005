use Rattle.std.proofs.Common.{◌≡◌, map, take}
use Rattle.pl_node.specs.Trees.{largest}
use Rattle.pl_groups.specs.declared.cores.CoreReach.{CoreReach}
use Rattle.pl_groups.proofs.cores.largest.Given as goal

abbrev pub invariant-loop-reach : goal.invariant-loop-reach
invariant-loop-reach l =
    l.largest ≡ largest (map (λ (r : CoreReach). r.edges) (take l.reach-index l.reaches))
