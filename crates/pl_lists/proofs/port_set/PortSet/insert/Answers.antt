use Rattle.pl_lists.proofs.PortBits.{ports_of-set}
use Rattle.pl_lists.proofs.port_set.PortSet.insert.Goals as goal

pub returns : goal.returns
returns c = ports_of-set c.args.self.now.0 c.args.port c.requires
