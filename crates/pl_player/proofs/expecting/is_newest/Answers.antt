use Rattle.std.proofs.Common.{◌∙◌, refl, None, false}
use Rattle.pl_player.proofs.HostNumbers.{all_read, nothing_read_yet, read_more, same_entry}
use Rattle.pl_player.proofs.expecting.is_newest.Goals as goal

pub loop-entry-init : goal.loop-entry-init
loop-entry-init c = nothing_read_yet c.args.h c.args.pmac (record { own = c.new.result; largest = None; is_it = false }) c.new.ensures.items refl refl

pub loop-entry-preserved : goal.loop-entry-preserved
loop-entry-preserved c =
    read_more c.args.journal.now c.loop-entry.entry-index c.entry-item.result c.args.h c.args.pmac c.loop-entry.addresses c.read.new.self c.loop-entry-test.true
    (c.entry-item.is ∙ same_entry c.args.journal.now c.loop-entry.entry-index _ c.entry-item.result c.loop-entry-test.true) c.in_ok-read.ensures c.loop-entry.invariant

pub returns : goal.returns
returns c =
    all_read c.args.journal.now c.loop-entry.entry-index c.args.h c.args.pmac c.loop-entry.addresses c.loop-entry-test.false c.loop-entry.invariant
