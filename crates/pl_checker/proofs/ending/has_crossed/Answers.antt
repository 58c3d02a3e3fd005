use Rattle.pl_checker.proofs.Ended.{crossed_by_row, shows_by}
use Rattle.pl_checker.proofs.ending.has_crossed.Goals as goal

pub returns : goal.returns
returns c = λ text past id is. shows_by _ _ (crossed_by_row c.args.wiring.now text past id c.args.row.now c.is_empty.result is c.is_empty.ensures)
