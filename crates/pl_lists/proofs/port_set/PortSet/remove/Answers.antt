use Rattle.pl_lists.proofs.PortBits.{ports_of-cleared}
use Rattle.pl_lists.proofs.port_set.PortSet.remove.Goals as goal

pub returns : goal.returns
returns c = ports_of-cleared c.args.self.now.0 c.args.port c.requires
