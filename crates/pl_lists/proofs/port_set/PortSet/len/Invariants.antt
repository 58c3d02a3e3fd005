use Rattle.std.proofs.Common.{◌≡◌, ◌+◌, ◌≤◌, length}
use Rattle.pl_lists.specs.Ports.{ports_of}
use Rattle.pl_lists.proofs.PortBits.{ports_from}
use Rattle.pl_lists.proofs.port_set.PortSet.len.Given as goal

abbrev pub invariant-loop-port : goal.invariant-loop-port
invariant-loop-port l = (l.count ≤ l.port) × (l.count + length (ports_from l.self l.port) ≡ length (ports_of l.self))
