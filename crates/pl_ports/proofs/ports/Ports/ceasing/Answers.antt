use Rattle.pl_ports.specs.Changes.{ceases}
use Rattle.pl_ports.specs.PortsViews.{ports_alone}
use Rattle.pl_ports.proofs.PortSets.{set_further}
use Rattle.pl_ports.proofs.ports.Ports.ceasing.Goals as goal

pub loop-port-preserved : goal.loop-port-preserved
loop-port-preserved c =
    set_further (ceases (ports_alone c.args.self.now)) c.loop-port.port _ _ _ c.insert_if.ensures c.ceases.ensures c.loop-port.invariant
