use Rattle.pl_checker.proofs.Ended.{dropped_for, none_dropped}
use Rattle.pl_checker.proofs.past.Past.may_drop.Goals as goal

pub returns-in_default : goal.returns-in_default
returns-in_default c = λ text past keeps.
    none_dropped c.args.wiring.now past c.args.id c.args.cause (c.in_default.ensures.none c.args.wiring.now text past keeps.run keeps.frames)

pub returns : goal.returns
returns c = λ text past keeps.
    let w = c.args.wiring.now in
    let found = c.in-Some.ensures.found w text past keeps.run keeps.frames in
    dropped_for w past c.args.id c.args.cause c.shows.result found.0 (c.shows.ensures text past c.args.id keeps found.1)
