use Rattle.std.proofs.Common.{get_or}
use Rattle.pl_node.proofs.AvoidRows.{blank_entry, same_default}
use Rattle.pl_node.proofs.Shown.{other_not_within_shown, others_within_shown}
use Rattle.pl_node.proofs.avoid_within.are_others_within.Goals as goal

pub returns-then-not-is_other_within : goal.returns-then-not-is_other_within
returns-then-not-is_other_within c =
    let i = c.loop-entry.entry-index in
    let entry = get_or c.args.others.now i blank_entry in
    other_not_within_shown c.args.hidden c.args.others.now i entry c.args.other.now c.is_other_within.result c.loop-entry-test.true
    (same_default c.args.others.now i blank_entry entry c.loop-entry-test.true) c.is_other_within.ensures c.if-not-is_other_within.true

pub loop-entry-preserved : goal.loop-entry-preserved
loop-entry-preserved c =
    let i = c.loop-entry.entry-index in
    let entry = get_or c.args.others.now i blank_entry in
    others_within_shown c.args.hidden c.args.others.now i entry c.args.other.now c.is_other_within.result c.loop-entry-test.true
    (same_default c.args.others.now i blank_entry entry c.loop-entry-test.true) c.is_other_within.ensures c.if-not-is_other_within.false c.loop-entry.invariant
