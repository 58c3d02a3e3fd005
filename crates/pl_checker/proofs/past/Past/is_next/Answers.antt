use Rattle.std.proofs.Common.{◌∙◌}
use Rattle.pl_checker.proofs.Begins.{next_number, zero_is_not_next}
use Rattle.pl_checker.proofs.past.Past.is_next.Goals as goal

pub returns-then-id-eq0 : goal.returns-then-id-eq0
returns-then-id-eq0 c = λ text past keeps. zero_is_not_next c.args.id _ c.if-id-eq0.true

pub returns : goal.returns
returns c = λ text past keeps. next_number c.args.id _ c.begun.result c.if-id-eq0.false (c.begun.ensures ∙ keeps.frames.many)
