use Rattle.std.proofs.Common.{◌≡◌, take}
use Rattle.pl_faults.specs.Missed.{missed_by}
use Rattle.pl_faults.specs.Rows.{IsReach}
use Rattle.pl_faults.proofs.missed.missed_by.Given as goal

abbrev pub invariant-loop-i : goal.invariant-loop-i
invariant-loop-i l = IsReach l.reports l.edges l.fn.reach → l.missed ≡ missed_by l.reports (take l.i l.edges) l.fn.switch
