use Rattle.std.proofs.Common.{get_or}
use Rattle.pl_node.proofs.AvoidRows.{blank_row, same_default}
use Rattle.pl_node.proofs.Shown.{row_not_apart, row_shown, rows_apart_more}
use Rattle.pl_node.proofs.avoid_within.are_rows_apart.Goals as goal

pub returns-then-not-is_row_apart : goal.returns-then-not-is_row_apart
returns-then-not-is_row_apart c =
    let i = c.loop-row.row-index in
    let row = get_or c.args.rows.now i blank_row in
    row_not_apart c.args.hidden c.args.also c.args.rows.now i row c.shown.result c.is_row_apart.result c.loop-row-test.true
    (same_default c.args.rows.now i blank_row row c.loop-row-test.true)
    (row_shown c.args.hidden row c.shown.result c.shown.ensures.neighbour c.shown.ensures.bits) c.is_row_apart.ensures c.if-not-is_row_apart.true

pub loop-row-preserved : goal.loop-row-preserved
loop-row-preserved c =
    let i = c.loop-row.row-index in
    let row = get_or c.args.rows.now i blank_row in
    rows_apart_more c.args.hidden c.args.also c.args.rows.now i row c.shown.result c.loop-row-test.true
    (same_default c.args.rows.now i blank_row row c.loop-row-test.true)
    (row_shown c.args.hidden row c.shown.result c.shown.ensures.neighbour c.shown.ensures.bits) (c.is_row_apart.ensures.0 c.if-not-is_row_apart.false)
    c.loop-row.invariant
