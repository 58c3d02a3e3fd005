use Rattle.std.proofs.Common.{ap}
use Rattle.std.proofs.lemmas.List.{take-replicate}
use Rattle.pl_node.specs.PortRecords.{new_port}
use Rattle.pl_layouts.specs.Placement.{nowhere}
use Rattle.pl_ports.specs.PortsViews.{PortsView}
use Rattle.pl_ports.proofs.ports.Ports.new.Goals as goal

pub returns : goal.returns
returns c = ap {B = PortsView} (λ ports. record { id = c.args.id; k = c.args.k; place = nowhere; ports = ports }) (take-replicate c.args.k 24 new_port c.requires.size.high)
