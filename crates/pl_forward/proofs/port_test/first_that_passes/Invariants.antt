use Rattle.std.proofs.Common.{◌≡◌, []}
use Rattle.std.specs.List.{filter}
use Rattle.pl_node.specs.PortRecords.{ports_of_switch}
use Rattle.pl_forward.proofs.port_test.first_that_passes.Given as goal

abbrev pub invariant-loop-port : goal.invariant-loop-port
invariant-loop-port g l = filter (g.T.PortTest.passes l.test) (ports_of_switch l.port) ≡ []
