use Rattle.std.proofs.Common.{◌≡◌, ◌==◌}
use Rattle.std.specs.List.{filter, list_any}
use Rattle.pl_node.specs.PortRecords.{ports_of_switch}
use Rattle.pl_lists.specs.Ports.{ports_of}
use Rattle.pl_switch_state.proofs.members.ports_within.Given as goal

abbrev pub invariant-loop-port : goal.invariant-loop-port
invariant-loop-port l = ports_of l.within ≡ filter (λ port. list_any (λ p. p == port) (ports_of l.set)) (ports_of_switch l.port)
