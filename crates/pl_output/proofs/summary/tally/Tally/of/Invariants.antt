use Rattle.std.proofs.Common.{take}
use Rattle.pl_output.specs.Tallied.{IsTallyOf}
use Rattle.pl_output.proofs.summary.tally.Tally.of.Given as goal

abbrev pub invariant-loop-entry : goal.invariant-loop-entry
invariant-loop-entry l = IsTallyOf l.tally l.hosts (take l.entry-index l.entries)
