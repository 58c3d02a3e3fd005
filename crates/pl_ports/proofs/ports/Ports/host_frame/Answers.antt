use Rattle.std.proofs.Common.{◌∙◌, sym, arith}
use Rattle.pl_ports.proofs.HostsFound.{edge_found, host_found}
use Rattle.pl_ports.proofs.ports.Ports.host_frame.Goals as goal

pub returns-clause-told : goal.returns-clause-told
returns-clause-told c =
    host_found c.args.self.now c.put.new.self c.become_edge.new.self c.args.port c.record-record.result c.record-record.ensures.known c.put.ensures c.become_edge.ensures
    (omega (arith, c.record-record.ensures.many))

pub returns-clause-view : goal.returns-clause-view
returns-clause-view c =
    edge_found c.args.self.now c.put.new.self c.become_edge.new.self c.args.port c.record-record.result c.record-record.ensures.known c.put.ensures c.become_edge.ensures
    (sym c.takes_host.ensures ∙ c.if-not-takes_host.false)
