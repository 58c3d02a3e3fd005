use Rattle.std.proofs.Common.{◌∙◌, sym}
use Rattle.pl_checker.proofs.Begins.{group_copied, none_copied, one_not_copied}
use Rattle.pl_past_tables.proofs.Exports.{group_by_row, none_is_not_some, some_is_not_none}
use Rattle.pl_past_tables.proofs.Exports.{none_by}
use Rattle.pl_checker.proofs.past.Past.may_copy.Goals as goal

pub returns-in_default : goal.returns-in_default
returns-in_default c = λ text past keeps.
    none_copied c.args.wiring.now past c.args.id c.args.new (c.in_default.ensures.none c.args.wiring.now text past keeps.run keeps.frames)

pub returns-then-is_none : goal.returns-then-is_none
returns-then-is_none c = λ text past keeps.
    let w = c.args.wiring.now in
    let found = c.in-Some.ensures.found w text past keeps.run keeps.frames in
    one_not_copied w past c.args.id c.args.new (sym (group_by_row w text past c.args.id c.in-Some.row found.1)
    ∙ none_is_not_some c.in-Some.row.carried.group (sym (none_by c.in-Some.row.carried.group c.is_none.result c.is_none.ensures) ∙ c.if-is_none.true))

pub returns : goal.returns
returns c = λ text past keeps.
    let w = c.args.wiring.now in
    let found = c.in-Some.ensures.found w text past keeps.run keeps.frames in
    group_copied w past c.args.id c.args.new c.is_next.result found.0
    (sym (group_by_row w text past c.args.id c.in-Some.row found.1)
    ∙ some_is_not_none c.in-Some.row.carried.group (sym (none_by c.in-Some.row.carried.group c.is_none.result c.is_none.ensures) ∙ c.if-is_none.false))
    (c.is_next.ensures text past keeps)
