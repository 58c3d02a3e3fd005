use Rattle.std.proofs.Common.{◌≡◌}
use Rattle.std.specs.List.{filter}
use Rattle.pl_node.specs.PortRecords.{is_usable, ports_of_switch}
use Rattle.pl_lists.specs.Ports.{ports_of}
use Rattle.pl_ports.specs.PortsViews.{ports_alone}
use Rattle.pl_ports.proofs.ports.Ports.usable_ports.Given as goal

abbrev pub invariant-loop-port : goal.invariant-loop-port
invariant-loop-port l = ports_of l.usable ≡ filter (is_usable (ports_alone l.self)) (ports_of_switch l.port)
