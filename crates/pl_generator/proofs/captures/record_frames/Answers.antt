use Rattle.std.proofs.Common.{sym, subst}
use Rattle.pl_generator.specs.Captures.{AreDrawnCaptures}
use Rattle.pl_generator.proofs.CaptureLemmas.{captures_more}
use Rattle.pl_generator.proofs.captures.record_frames.Goals as goal

pub loop-frame-preserved : goal.loop-frame-preserved
loop-frame-preserved c =
    subst (AreDrawnCaptures c.args.hosts _) (sym c.in_ok-add_to_source.ensures)
    (captures_more c.args.hosts c.args.frames.now c.loop-frame.frame-index _ c.loop-frame.captures.items c.loop-frame-test.true
    c.loop-frame.invariant)
