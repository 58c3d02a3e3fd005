use Rattle.pl_checker.proofs.Begins.{and_nothing}
use Rattle.pl_checker.proofs.past.Past.may_send.Goals as goal

pub returns : goal.returns
returns c = λ text past host frame keeps. and_nothing _ _ (c.is_next.ensures text past keeps)
