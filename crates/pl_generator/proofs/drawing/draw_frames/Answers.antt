use Rattle.std.proofs.Common.{◌≡◌, refl, ◌∙◌, ap, arith}
use Rattle.pl_generator.specs.Drawing.{frames_of, last_number}
use Rattle.pl_generator.proofs.Ranges.{frames_more, last_more}
use Rattle.pl_generator.proofs.drawing.draw_frames.Goals as goal

pub loop-f-init : goal.loop-f-init
unfolding frames_of
loop-f-init c = (c.new-frames.ensures.items, refl)

pub loop-f-preserved : goal.loop-f-preserved
loop-f-preserved c = (
  frames_more c.args.hosts c.args.number c.loop-f.f c.loop-f.frames.items _ c.loop-f.last c.draw_frame.result c.loop-f.invariant.0
      c.loop-f.invariant.1 c.draw_frame.ensures.frame c.in_ok-push.ensures.items,
  last_more c.args.number c.loop-f.f c.loop-f.last _ c.loop-f.invariant.1 c.draw_frame.ensures.drawn,
)

pub returns-clause-frames : goal.returns-clause-frames
returns-clause-frames c =
    let all : c.loop-f.f ≡ c.args.many = omega arith in
    c.loop-f.invariant.0 ∙ ap (frames_of c.args.hosts c.args.number) all

pub returns-clause-last : goal.returns-clause-last
returns-clause-last c =
    let all : c.loop-f.f ≡ c.args.many = omega arith in
    c.loop-f.invariant.1 ∙ ap (last_number c.args.number) all
