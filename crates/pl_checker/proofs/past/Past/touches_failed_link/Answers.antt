use Rattle.std.proofs.Common.{◌∙◌, ap, None, Some}
use Rattle.pl_journal.specs.Causes.{touches_failed_link}
use Rattle.pl_checker.proofs.Ended.{shows_by, touched_none}
use Rattle.pl_checker.proofs.past.Past.touches_failed_link.Goals as goal

pub returns-in-None : goal.returns-in-None
returns-in-None c = λ text past id keeps is.
    let w = c.args.wiring.now in
    shows_by _ _ (ap (touches_failed_link w past) (touched_none w text past id c.args.row.now None is c.in-None.ensures))

pub returns-in-Some : goal.returns-in-Some
returns-in-Some c = λ text past id keeps is.
    let w = c.args.wiring.now in
    shows_by _ _ (c.has_failed_link.ensures past keeps.links ∙ ap (touches_failed_link w past)
    (touched_none w text past id c.args.row.now (Some c.in-Some.s) is c.in-Some.ensures))
