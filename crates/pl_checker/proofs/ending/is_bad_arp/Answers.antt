use Rattle.pl_checker.proofs.Ended.{bad_arp_by_row, not_one_by_row}
use Rattle.pl_checker.proofs.ending.is_bad_arp.Goals as goal

pub returns-then-not-is_single : goal.returns-then-not-is_single
returns-then-not-is_single c = λ text past id is. not_one_by_row c.args.wiring.now text past id c.args.row.now c.is_single.result is c.is_single.ensures
    c.if-not-is_single.true

pub returns : goal.returns
returns c = λ text past id is. bad_arp_by_row c.args.wiring.now text past id c.args.row.now c.is_single.result is c.is_single.ensures c.if-not-is_single.false
