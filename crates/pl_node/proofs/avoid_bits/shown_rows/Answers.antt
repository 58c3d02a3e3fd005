use Rattle.std.proofs.Common.{get_or}
use Rattle.pl_node.proofs.AvoidRows.{blank_row, same_default}
use Rattle.pl_node.proofs.Shown.{row_shown, rows_shown_more}
use Rattle.pl_node.proofs.avoid_bits.shown_rows.Goals as goal

pub loop-row-preserved : goal.loop-row-preserved
loop-row-preserved c =
    let i = c.loop-row.row-index in
    let row = get_or c.args.rows.now i blank_row in
    rows_shown_more c.args.hidden c.args.rows.now c.loop-row.left.items c.push.new.self.items i row c.shown.result c.loop-row-test.true
    (same_default c.args.rows.now i blank_row row c.loop-row-test.true)
    (row_shown c.args.hidden row c.shown.result c.shown.ensures.neighbour c.shown.ensures.bits) c.in_ok-push.ensures.items c.loop-row.invariant
