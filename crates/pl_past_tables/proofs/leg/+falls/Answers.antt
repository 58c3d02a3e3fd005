use Rattle.pl_past_tables.proofs.ShortLegs.{one_falls}
use Rattle.pl_past_tables.proofs.leg.+falls.Goals as goal

pub returns-in-len1 : goal.returns-in-len1
returns-in-len1 t c = one_falls c.args.k c.args.switches.now c.in-len1.len_below
