use Rattle.std.proofs.Common.{get_or}
use Rattle.pl_node.proofs.AvoidRows.{blank_entry, same_default}
use Rattle.pl_node.proofs.Shown.{other_not_apart, others_apart_more}
use Rattle.pl_node.proofs.avoid_within.are_others_apart.Goals as goal

pub returns-then-not-is_other_apart : goal.returns-then-not-is_other_apart
returns-then-not-is_other_apart c =
    let i = c.loop-entry.entry-index in
    let entry = get_or c.args.others.now i blank_entry in
    other_not_apart c.args.hidden c.args.also c.args.others.now i entry c.is_other_apart.result c.loop-entry-test.true
    (same_default c.args.others.now i blank_entry entry c.loop-entry-test.true) c.is_other_apart.ensures c.if-not-is_other_apart.true

pub loop-entry-preserved : goal.loop-entry-preserved
loop-entry-preserved c =
    let i = c.loop-entry.entry-index in
    let entry = get_or c.args.others.now i blank_entry in
    others_apart_more c.args.hidden c.args.also c.args.others.now i entry c.is_other_apart.result c.loop-entry-test.true
    (same_default c.args.others.now i blank_entry entry c.loop-entry-test.true) c.is_other_apart.ensures c.if-not-is_other_apart.false c.loop-entry.invariant
