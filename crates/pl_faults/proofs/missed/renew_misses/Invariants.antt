use Rattle.std.proofs.Common.{take}
use Rattle.pl_faults.specs.Missed.{AreMissesRenewed}
use Rattle.pl_faults.specs.Rows.{IsReach}
use Rattle.pl_faults.proofs.missed.renew_misses.Given as goal

abbrev pub invariant-loop-switch : goal.invariant-loop-switch
invariant-loop-switch l =
    IsReach l.reports l.edges l.reach →
    AreMissesRenewed l.reports l.edges (take l.switch-index l.asked) l.initial.misses.entries l.misses.entries l.changed
