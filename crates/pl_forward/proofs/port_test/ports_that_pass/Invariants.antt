use Rattle.std.proofs.Common.{◌≡◌}
use Rattle.std.specs.List.{filter}
use Rattle.pl_node.specs.PortRecords.{ports_of_switch}
use Rattle.pl_lists.specs.Ports.{ports_of}
use Rattle.pl_forward.proofs.port_test.ports_that_pass.Given as goal

abbrev pub invariant-loop-port : goal.invariant-loop-port
invariant-loop-port g l = ports_of l.ports ≡ filter (g.T.PortTest.passes l.test) (ports_of_switch l.port)
