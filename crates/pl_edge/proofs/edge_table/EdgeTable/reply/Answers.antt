use Rattle.std.proofs.Common.{◌∙◌, ap, sym}
use Rattle.pl_edge.proofs.Delivered.{replied}
use Rattle.pl_edge.proofs.Placing.{edge_of}
use Rattle.pl_edge.proofs.edge_table.EdgeTable.reply.Goals as goal

pub returns-in-Some-clause-tells : goal.returns-in-Some-clause-tells
returns-in-Some-clause-tells c =
    let edge = c.self.inside in
    replied c.args.self.now edge.k c.in-Some.address_table edge.remembered.items edge.members
    (ap (λ o. edge_of edge.k o edge.remembered.items edge.members) (sym c.in-Some.is) ∙ c.self.view_is)
    c.args.frame.now c.reply.result c.reply.ensures.tells
