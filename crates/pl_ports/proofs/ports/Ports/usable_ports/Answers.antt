use Rattle.pl_node.specs.PortRecords.{is_usable}
use Rattle.pl_ports.specs.PortsViews.{ports_alone}
use Rattle.pl_ports.proofs.PortSets.{set_further}
use Rattle.pl_ports.proofs.ports.Ports.usable_ports.Goals as goal

pub loop-port-preserved : goal.loop-port-preserved
loop-port-preserved c =
    set_further (is_usable (ports_alone c.args.self.now)) c.loop-port.port _ _ _ c.insert_if.ensures c.is_usable.ensures.usable c.loop-port.invariant
