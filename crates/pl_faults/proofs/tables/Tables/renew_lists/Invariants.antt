use Rattle.std.proofs.Common.{take}
use Rattle.pl_faults.specs.Kept.{AreTablesRenewed}
use Rattle.pl_faults.specs.Listed.{is_in}
use Rattle.pl_faults.specs.Missed.{IsLeading}
use Rattle.pl_faults.specs.Sharing.{CanShare}
use Rattle.pl_faults.proofs.tables.Tables.renew_lists.Given as goal

abbrev pub invariant-loop-switch : goal.invariant-loop-switch
invariant-loop-switch l =
    IsLeading l.initial.self.reports l.initial.self.leading →
    AreTablesRenewed (is_in (take l.switch-index l.asked)) l.initial.self l.self × CanShare l.initial.self.reports l.initial.self.leading l.apart l.last
