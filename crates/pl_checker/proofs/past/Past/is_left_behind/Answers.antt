use Rattle.std.proofs.Common.{◌&&◌, ◌∙◌, ap, nat_lt, sym}
use Rattle.pl_checker.proofs.Ended.{left_behind_by_row}
use Rattle.pl_past_tables.proofs.Exports.{and_then}
use Rattle.pl_checker.proofs.past.Past.is_left_behind.Goals as goal

pub returns-then-not-is_empty : goal.returns-then-not-is_empty
returns-then-not-is_empty c = λ text past id keeps is.
    ap (λ t. t && nat_lt c.args.row.now.sent c.moved_at.result) (sym c.if-not-is_empty.true)
    ∙ left_behind_by_row c.args.wiring.now text past id c.args.row.now c.in-Some.host c.is_empty.result c.moved_at.result is c.in-Some.is c.is_empty.ensures
    (c.moved_at.ensures past keeps.hosts)

pub returns : goal.returns
returns c = λ text past id keeps is.
    and_then c.is_empty.result (nat_lt c.args.row.now.sent c.moved_at.result) _ c.if-not-is_empty.false
    (left_behind_by_row c.args.wiring.now text past id c.args.row.now c.in-Some.host c.is_empty.result c.moved_at.result is c.in-Some.is c.is_empty.ensures
    (c.moved_at.ensures past keeps.hosts))
