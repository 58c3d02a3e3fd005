use Rattle.pl_checker.proofs.Grants.{freeable}
use Rattle.pl_checker.proofs.past.Past.may_free.Goals as goal

pub returns : goal.returns
returns c = λ text past keeps. freeable c.args.wiring.now past c.args.x c.number_of.result c.is_live.result c.number_of.ensures
    (c.is_live.ensures past keeps.holders)
