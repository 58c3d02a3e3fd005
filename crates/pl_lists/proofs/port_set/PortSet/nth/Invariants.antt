use Rattle.std.proofs.Common.{◌≡◌, slice_get}
use Rattle.pl_lists.specs.Ports.{ports_of}
use Rattle.pl_lists.proofs.PortBits.{ports_from}
use Rattle.pl_lists.proofs.port_set.PortSet.nth.Given as goal

abbrev pub invariant-loop-port : goal.invariant-loop-port
invariant-loop-port l = slice_get (ports_from l.self l.port) l.left ≡ slice_get (ports_of l.self) l.n
