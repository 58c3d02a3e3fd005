use Rattle.std.proofs.Common.{get_or}
use Rattle.pl_node.proofs.AvoidRows.{blank_row, same_default}
use Rattle.pl_node.proofs.Shown.{row_not_within_shown, row_shown, rows_within_shown}
use Rattle.pl_node.proofs.avoid_within.are_rows_within.Goals as goal

pub returns-then-not-is_row_within : goal.returns-then-not-is_row_within
returns-then-not-is_row_within c =
    let i = c.loop-row.row-index in
    let row = get_or c.args.rows.now i blank_row in
    row_not_within_shown c.args.hidden c.args.rows.now i row c.shown.result c.args.other.now c.is_row_within.result c.loop-row-test.true
    (same_default c.args.rows.now i blank_row row c.loop-row-test.true)
    (row_shown c.args.hidden row c.shown.result c.shown.ensures.neighbour c.shown.ensures.bits) c.is_row_within.ensures c.if-not-is_row_within.true

pub loop-row-preserved : goal.loop-row-preserved
loop-row-preserved c =
    let i = c.loop-row.row-index in
    let row = get_or c.args.rows.now i blank_row in
    rows_within_shown c.args.hidden c.args.rows.now i row c.shown.result c.args.other.now c.loop-row-test.true
    (same_default c.args.rows.now i blank_row row c.loop-row-test.true)
    (row_shown c.args.hidden row c.shown.result c.shown.ensures.neighbour c.shown.ensures.bits) (c.is_row_within.ensures.0 c.if-not-is_row_within.false)
    c.loop-row.invariant
