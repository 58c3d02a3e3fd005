use Rattle.pl_checker.proofs.Begins.{and_nothing, next_number, zero_is_not_next}
use Rattle.pl_checker.proofs.past.Past.may_restart.Goals as goal

pub returns-then-number-eq0 : goal.returns-then-number-eq0
returns-then-number-eq0 c = λ text past keeps. and_nothing _ _ (zero_is_not_next c.args.number _ c.if-number-eq0.true)

pub returns : goal.returns
returns c = λ text past keeps. and_nothing _ _ (next_number c.args.number _ c.args.self.now.restarts c.if-number-eq0.false keeps.restarts)
