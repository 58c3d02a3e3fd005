use Rattle.pl_edge.specs.EdgeViews.{edge_in}
use Rattle.pl_edge.proofs.Placing.{kept_same}
use Rattle.pl_edge.proofs.Taking.{begun_members, read_message, read_none}
use Rattle.pl_edge.proofs.edge_table.EdgeTable.ingress.Goals as goal

pub returns-then-is_membership-clause-begun : goal.returns-then-is_membership-clause-begun
returns-then-is_membership-clause-begun c = λ choose v may.
    begun_members choose c.args.port c.args.frame.now (edge_in c.args.self.now v) (edge_in c.hear_members.new.self v) c.args.out.now c.hear_members.new.out
    (read_message c.args.frame.now c.bytes.result.now c.is_membership.result c.bytes.ensures c.is_membership.ensures c.if-is_membership.true)
    (c.in_ok-hear_members.ensures.taken v)

pub take_in-requires-clause-other : goal.take_in-requires-clause-other
take_in-requires-clause-other c =
    read_none c.args.frame.now c.bytes.result.now c.is_membership.result c.bytes.ensures c.is_membership.ensures c.if-is_membership.false

pub returns-clause-kept : goal.returns-clause-kept
returns-clause-kept c = kept_same c.args.self.now
