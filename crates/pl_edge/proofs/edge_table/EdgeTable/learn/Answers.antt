use Rattle.std.proofs.Common.{◌∙◌, ap, sym}
use Rattle.pl_frame.specs.Ethernet.{source_of}
use Rattle.pl_switch_rule.specs.Granting.{sender_ip}
use Rattle.pl_edge.proofs.Placing.{edge_of, learnt}
use Rattle.pl_edge.proofs.edge_table.EdgeTable.learn.Goals as goal

pub returns-in_ok-learn-in-Some-clause-taken : goal.returns-in_ok-learn-in-Some-clause-taken
returns-in_ok-learn-in-Some-clause-taken c = λ v may.
    let edge = c.self.inside in
    learnt c.args.self.now edge.k c.in-Some.address_table c.learn.new.self edge.remembered.items edge.members c.args.port c.source_of-amac.result c.sender_ip-ip.result
    c.args.frame.now c.args.out.now c.learn.new.out
    (ap (λ o. edge_of edge.k o edge.remembered.items edge.members) (sym c.in-Some.is) ∙ c.self.view_is)
    (c.source_of-amac.ensures ∙ ap source_of c.bytes.ensures) (c.sender_ip-ip.ensures ∙ ap sender_ip c.bytes-2.ensures)
    c.in_ok-learn-in-Some.ensures.taken v
