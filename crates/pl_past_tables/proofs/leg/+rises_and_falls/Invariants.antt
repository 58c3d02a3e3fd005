use Rattle.std.proofs.Common.{length}
use Rattle.pl_past_tables.proofs.leg.+rises_and_falls.Given as goal

abbrev pub decreases-rises_and_falls : goal.decreases-rises_and_falls
decreases-rises_and_falls l = length l.switches.now
