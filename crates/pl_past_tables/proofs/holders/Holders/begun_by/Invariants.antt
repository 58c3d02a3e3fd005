use Rattle.std.proofs.Common.{◌≤◌, ◌-◌, length, List}
use Rattle.pl_journal.specs.declared.entry.Entry.{Entry}
use Rattle.pl_past.specs.Addressees.{tenures}
use Rattle.pl_past_tables.specs.Holders.{AreBegun, KeepsHolders}
use Rattle.pl_past_tables.proofs.holders.Holders.begun_by.Given as goal

abbrev pub invariant-loop-low : goal.invariant-loop-low
invariant-loop-low l = (past : List Entry) → KeepsHolders past l.self →
    (l.low ≤ l.high) × (l.high ≤ length (tenures past l.address)) × AreBegun l.n (tenures past l.address) l.low l.high

abbrev pub decreases-loop-low : goal.decreases-loop-low
decreases-loop-low l = l.high - l.low
