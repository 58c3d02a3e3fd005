use Rattle.std.proofs.Common.{◌==◌}
use Rattle.std.specs.List.{list_any}
use Rattle.pl_lists.specs.Ports.{ports_of}
use Rattle.pl_ports.proofs.Exports.{set_further}
use Rattle.pl_switch_state.proofs.members.ports_within.Goals as goal

pub loop-port-preserved : goal.loop-port-preserved
loop-port-preserved c =
    set_further (λ port. list_any (λ p. p == port) (ports_of c.args.set)) c.loop-port.port _ _ _ c.insert_if.ensures c.contains.ensures c.loop-port.invariant
