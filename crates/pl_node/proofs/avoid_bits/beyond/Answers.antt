use Rattle.std.proofs.Common.{get_or}
use Rattle.pl_node.proofs.AvoidRows.{blank_row, same_beyond, same_default}
use Rattle.pl_node.proofs.avoid_bits.beyond.Goals as goal

pub returns-then-is_beside : goal.returns-then-is_beside
returns-then-is_beside c =
    let i = c.loop-one.one-index in
    let one = get_or c.args.rows.now i blank_row in
    same_beyond c.args.rows.now i one c.args.row.now c.without.result c.args.others.now c.loop-one-test.true
    (same_default c.args.rows.now i blank_row one c.loop-one-test.true) (c.is_beside.ensures c.if-is_beside.true)
    c.without.ensures.neighbour c.without.ensures.bits
