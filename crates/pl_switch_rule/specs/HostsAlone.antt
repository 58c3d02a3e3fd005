-- An edge switch of four ports with a host at each, for tests: nothing can leave it but to hosts.
use Rattle.std.specs.Prelude.{true, replicate, None}
use Rattle.pl_node.specs.declared.neighbour.PortRecord.{PortRecord}
use Rattle.pl_node.specs.SwitchFacts.{switch_at_boot}
use Rattle.pl_node.specs.SwitchViews.{SwitchView}

abbrev pub host_port : PortRecord
host_port = record { host = true; heard = None; silent = 0 }

abbrev pub hosts_alone : SwitchView
hosts_alone = record (switch_at_boot (record { 0 = 5 }) 4) { ports = replicate 4 host_port }
