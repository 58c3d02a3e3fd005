use Rattle.pl_tables.proofs.PortSets.{has_without}
use Rattle.pl_tables.proofs.prefix_tables.bits_without.Goals as goal

pub returns : goal.returns
returns c = λ port low. has_without c.args.bits c.args.others port c.ranges.others.fits low
