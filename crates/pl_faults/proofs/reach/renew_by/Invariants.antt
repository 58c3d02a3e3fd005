use Rattle.std.proofs.Common.{take}
use Rattle.pl_faults.specs.Rows.{AreLevelRows, AreRowsRenewed, RowOfSwitch, leads_by, row_at_level}
use Rattle.pl_faults.proofs.reach.renew_by.Given as goal

abbrev pub invariant-loop-switch : goal.invariant-loop-switch
invariant-loop-switch l =
    (f : RowOfSwitch) → AreLevelRows l.reports l.level l.edges f l.by.entries →
    AreRowsRenewed (row_at_level l.reports l.own (leads_by l.reports l.level f) l.edges) (take l.switch-index l.asked)
    l.initial.rows.entries l.rows.entries l.changed
