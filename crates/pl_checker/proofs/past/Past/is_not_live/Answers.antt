use Rattle.pl_checker.proofs.Ended.{gone_by_row}
use Rattle.pl_checker.proofs.past.Past.is_not_live.Goals as goal

pub returns : goal.returns
returns c = λ text past id keeps is. gone_by_row c.args.wiring.now text past id c.args.row.now c.is_live.result is (c.is_live.ensures past keeps.holders)
