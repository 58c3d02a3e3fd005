use Rattle.std.proofs.Common.{get_or}
use Rattle.pl_node.proofs.AvoidRows.{blank_row, row_found, same_default}
use Rattle.pl_node.proofs.avoid_bits.has_row.Goals as goal

pub returns-then-is_same_row : goal.returns-then-is_same_row
returns-then-is_same_row c =
    let i = c.loop-one.one-index in
    let row = get_or c.args.rows.now i blank_row in
    row_found c.args.rows.now i row c.args.row.now c.is_same_row.result c.loop-one-test.true
    (same_default c.args.rows.now i blank_row row c.loop-one-test.true) c.is_same_row.ensures c.if-is_same_row.true
