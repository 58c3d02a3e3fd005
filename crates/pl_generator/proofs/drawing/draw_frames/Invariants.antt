use Rattle.std.proofs.Common.{◌≡◌}
use Rattle.pl_generator.specs.Drawing.{frames_of, last_number}
use Rattle.pl_generator.proofs.drawing.draw_frames.Given as goal

abbrev pub invariant-loop-f : goal.invariant-loop-f
invariant-loop-f l = (l.frames.items ≡ frames_of l.hosts l.number l.f) × (l.last ≡ last_number l.number l.f)
