use Rattle.pl_checker.proofs.Begins.{and_nothing}
use Rattle.pl_checker.proofs.past.Past.may_make.Goals as goal

pub returns : goal.returns
returns c = λ text past s frame keeps. and_nothing _ _ (c.is_next.ensures text past keeps)
