use Rattle.std.proofs.Common.{◌≡◌, ◌==◌, filter, map, take}
use Rattle.pl_groups.specs.declared.cores.CoreReach.{CoreReach}
use Rattle.pl_groups.proofs.cores.best_of.Given as goal

abbrev pub invariant-loop-reach : goal.invariant-loop-reach
invariant-loop-reach l =
    l.best.items ≡ map (λ (r : CoreReach). r.core) (filter (λ (r : CoreReach). r.edges == l.largest) (take l.reach-index l.reaches))
