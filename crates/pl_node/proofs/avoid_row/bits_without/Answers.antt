use Rattle.pl_node.proofs.AvoidRows.{bits_left}
use Rattle.pl_node.proofs.avoid_row.bits_without.Goals as goal

pub returns : goal.returns
returns c = λ bit low. bits_left c.args.word c.args.other bit c.ranges.other.fits low
