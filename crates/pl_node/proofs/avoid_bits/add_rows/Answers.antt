use Rattle.std.proofs.Common.{get_or}
use Rattle.pl_node.proofs.AvoidRows.{blank_row, rows_gain, same_default}
use Rattle.pl_node.proofs.avoid_bits.add_rows.Goals as goal

pub loop-row-preserved : goal.loop-row-preserved
loop-row-preserved c =
    let i = c.loop-row.row-index in
    let row = get_or c.args.rows.now i blank_row in
    rows_gain c.args.list.now c.loop-row.list c.add_row.new.list c.args.other.now c.args.rows.now i row c.loop-row-test.true
    (same_default c.args.rows.now i blank_row row c.loop-row-test.true) c.loop-row.invariant c.in_ok-add_row.ensures
