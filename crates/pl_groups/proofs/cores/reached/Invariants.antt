use Rattle.std.proofs.Common.{◌≡◌, map, take}
use Rattle.pl_groups.proofs.Rows.{reached_in}
use Rattle.pl_groups.proofs.cores.reached.Given as goal

abbrev pub invariant-loop-switch : goal.invariant-loop-switch
invariant-loop-switch l =
    l.reached ≡ map (reached_in l.reports (take l.switch-index l.switch-items)) l.needed
