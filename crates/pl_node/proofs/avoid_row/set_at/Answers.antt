use Rattle.pl_node.proofs.AvoidRows.{row_set}
use Rattle.pl_node.proofs.avoid_row.set_at.Goals as goal

pub returns : goal.returns
returns c =
    row_set c.args.rows.now.items c.args.i c.args.number c.args.neighbour c.index.result.now c.with.result c.requires.row c.requires.neighbour
    c.index.ensures c.with.ensures.neighbour c.with.ensures.bits
