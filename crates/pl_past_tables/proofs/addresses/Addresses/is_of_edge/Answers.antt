use Rattle.pl_past_tables.proofs.Granted.{of_edge_by_tables}
use Rattle.pl_past_tables.proofs.Said.{and_else, and_then}
use Rattle.pl_past_tables.proofs.addresses.Addresses.is_of_edge.Goals as goal

pub returns-then-of_edge : goal.returns-then-of_edge
returns-then-of_edge c = λ plan past run keeps.
    and_then c.is_or_none-of_edge.result c.is_alike_or_none-alike.result _ c.if-of_edge.true
    (of_edge_by_tables plan past c.args.self.now c.args.x c.args.edge c.get.result c.get-2.result c.is_or_none-of_edge.result c.is_alike_or_none-alike.result
    run keeps
    c.get.ensures c.get-2.ensures c.is_or_none-of_edge.ensures c.is_alike_or_none-alike.ensures)

pub returns-else-of_edge : goal.returns-else-of_edge
returns-else-of_edge c = λ plan past run keeps.
    and_else c.is_or_none-of_edge.result c.is_alike_or_none-alike.result _ c.if-of_edge.false
    (of_edge_by_tables plan past c.args.self.now c.args.x c.args.edge c.get.result c.get-2.result c.is_or_none-of_edge.result c.is_alike_or_none-alike.result
    run keeps
    c.get.ensures c.get-2.ensures c.is_or_none-of_edge.ensures c.is_alike_or_none-alike.ensures)
