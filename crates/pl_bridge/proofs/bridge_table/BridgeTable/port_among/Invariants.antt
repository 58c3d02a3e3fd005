use Rattle.pl_bridge.proofs.Finding.{IsFoundFrom}
use Rattle.pl_bridge.proofs.bridge_table.BridgeTable.port_among.Given as goal

abbrev pub invariant-loop-port : goal.invariant-loop-port
invariant-loop-port l = IsFoundFrom l.k l.self l.mac l.port
