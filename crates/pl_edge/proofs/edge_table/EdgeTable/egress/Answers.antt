use Rattle.std.proofs.Common.{◌∙◌, ap, sym}
use Rattle.pl_switch_rule.specs.Delivering.{comes_home}
use Rattle.pl_edge.proofs.Delivered.{sent_by}
use Rattle.pl_edge.proofs.Placing.{edge_of}
use Rattle.pl_edge.proofs.edge_table.EdgeTable.egress.Goals as goal

pub returns-in-Some-clause-taken : goal.returns-in-Some-clause-taken
returns-in-Some-clause-taken c =
    let edge = c.self.inside in
    sent_by c.args.self.now edge.k c.in-Some.address_table edge.remembered.items edge.members
    (ap (λ o. edge_of edge.k o edge.remembered.items edge.members) (sym c.in-Some.is) ∙ c.self.view_is)
    (λ choose v. comes_home choose v c.args.frame) c.args.out.now c.egress.new.out c.egress.result c.egress.ensures.taken
