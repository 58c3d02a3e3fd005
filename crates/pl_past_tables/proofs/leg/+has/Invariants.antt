use Rattle.std.proofs.Common.{length}
use Rattle.pl_past_tables.proofs.leg.+has.Given as goal

abbrev pub decreases-has : goal.decreases-has
decreases-has l = length l.switches.now
