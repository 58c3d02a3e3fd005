use Rattle.std.proofs.Common.{length}
use Rattle.pl_past_tables.proofs.leg.+falls.Given as goal

abbrev pub decreases-falls : goal.decreases-falls
decreases-falls l = length l.switches.now
