use Rattle.std.proofs.Common.{length}
use Rattle.pl_past_tables.proofs.leg.+are_different.Given as goal

abbrev pub decreases-are_different : goal.decreases-are_different
decreases-are_different l = length l.switches.now
