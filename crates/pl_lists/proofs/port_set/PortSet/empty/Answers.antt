use Rattle.std.proofs.Common.{refl}
use Rattle.pl_lists.specs.Ports.{ports_of}
use Rattle.pl_lists.proofs.port_set.PortSet.empty.Goals as goal

pub returns : goal.returns
unfolding ports_of
returns c = refl
