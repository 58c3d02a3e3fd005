use Rattle.std.proofs.Common.{take}
use Rattle.pl_faults.specs.Rows.{AreRowsRenewed, leads_down, row_at_level}
use Rattle.pl_faults.proofs.reach.renew_down.Given as goal

abbrev pub invariant-loop-switch : goal.invariant-loop-switch
invariant-loop-switch l =
    AreRowsRenewed (row_at_level l.reports 1 (leads_down l.reports) l.edges) (take l.switch-index l.asked) l.initial.rows.entries l.rows.entries l.changed
