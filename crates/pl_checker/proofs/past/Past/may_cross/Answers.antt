use Rattle.pl_checker.proofs.Crosses.{none_crosses, one_crosses}
use Rattle.pl_checker.proofs.past.Past.may_cross.Goals as goal

pub returns-in_default : goal.returns-in_default
returns-in_default c = λ text past keeps.
    none_crosses c.args.wiring.now past c.args.id c.args.s (c.in_default.ensures.none c.args.wiring.now text past keeps.run keeps.frames)

pub returns : goal.returns
returns c = λ text past keeps.
    let w = c.args.wiring.now in
    let found = c.in-Some.ensures.found w text past keeps.run keeps.frames in
    one_crosses w past c.args.id c.args.s c.goes_well.result found.0 (c.goes_well.ensures text past _ keeps.links found.1)
