use Rattle.std.proofs.Common.{take}
use Rattle.pl_generator.specs.Captures.{AreDrawnCaptures}
use Rattle.pl_generator.proofs.captures.record_frames.Given as goal

abbrev pub invariant-loop-frame : goal.invariant-loop-frame
invariant-loop-frame l = AreDrawnCaptures l.hosts (take l.frame-index l.frames) l.captures.items
