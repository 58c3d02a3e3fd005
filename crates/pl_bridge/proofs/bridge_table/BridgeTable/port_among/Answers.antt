use Rattle.std.proofs.Common.{sym, ◌∙◌, arith}
use Rattle.pl_bridge.proofs.Finding.{found_here, found_nowhere, from_first, from_next}
use Rattle.pl_bridge.proofs.bridge_table.BridgeTable.port_among.Goals as goal

pub loop-port-init : goal.loop-port-init
loop-port-init c = from_first c.args.k c.args.self.now c.args.mac

pub loop-port-preserved : goal.loop-port-preserved
loop-port-preserved c = from_next c.args.k c.args.self.now c.args.mac c.loop-port.port c.loop-port.invariant (sym c.is_at.ensures ∙ c.if-is_at.false)

pub returns-then-is_at : goal.returns-then-is_at
returns-then-is_at c = found_here c.args.k c.args.self.now c.args.mac c.loop-port.port c.loop-port.invariant (sym c.is_at.ensures ∙ c.if-is_at.true) c.loop-port-test.true

pub returns : goal.returns
returns c = found_nowhere c.args.k c.args.self.now c.args.mac c.loop-port.port c.loop-port.invariant (omega arith)
