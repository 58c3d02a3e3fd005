use Rattle.std.proofs.Common.{◌∙◌, ap, sym}
use Rattle.pl_journal.specs.Causes.{is_routed}
use Rattle.pl_checker.proofs.Ended.{shows_by}
use Rattle.pl_checker.proofs.ending.is_routed.Goals as goal

pub returns-in-None : goal.returns-in-None
returns-in-None c = λ text past id is. shows_by _ _ (ap is_routed (sym c.in-None.is ∙ is.carried.group))

pub returns-in-Some : goal.returns-in-Some
returns-in-Some c = λ text past id is. shows_by _ _ (ap is_routed (sym c.in-Some.is ∙ is.carried.group))
