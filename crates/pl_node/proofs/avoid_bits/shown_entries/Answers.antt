use Rattle.std.proofs.Common.{get_or}
use Rattle.pl_node.proofs.AvoidRows.{blank_entry, same_default}
use Rattle.pl_node.proofs.Shown.{entries_shown_more}
use Rattle.pl_node.proofs.avoid_bits.shown_entries.Goals as goal

pub loop-entry-preserved : goal.loop-entry-preserved
loop-entry-preserved c =
    let i = c.loop-entry.entry-index in
    let entry = get_or c.args.entries.now i blank_entry in
    entries_shown_more c.args.hidden c.args.entries.now c.loop-entry.left c.add_shown.new.left i entry c.loop-entry-test.true
    (same_default c.args.entries.now i blank_entry entry c.loop-entry-test.true) c.in_ok-add_shown.ensures c.loop-entry.invariant
