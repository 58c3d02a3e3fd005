use Rattle.pl_checker.proofs.Ended.{none_taken, not_takeable, of_no_host, taken_alone}
use Rattle.std.proofs.Common.{◌∙◌, sym}
use Rattle.pl_past_tables.proofs.Exports.{none_by}
use Rattle.pl_checker.proofs.past.Past.may_take.Goals as goal

pub returns-in_default : goal.returns-in_default
returns-in_default c = λ text past keeps.
    none_taken c.args.wiring.now past c.args.id c.args.s (c.in_default.ensures.none c.args.wiring.now text past keeps.run keeps.frames)

pub returns-then-is_none : goal.returns-then-is_none
returns-then-is_none c = λ text past keeps.
    let w = c.args.wiring.now in
    let found = c.in-Some.ensures.found w text past keeps.run keeps.frames in
    of_no_host w text past c.args.id c.args.s c.in-Some.row found.1 (sym (none_by c.in-Some.row.sender c.is_none.result c.is_none.ensures) ∙ c.if-is_none.true)

pub returns-then-not-row : goal.returns-then-not-row
returns-then-not-row c = λ text past keeps.
    let w = c.args.wiring.now in
    let found = c.in-Some.ensures.found w text past keeps.run keeps.frames in
    not_takeable w text past c.args.id c.args.s c.in-Some.row found.1 c.if-not-row.true

pub returns : goal.returns
returns c = λ text past keeps.
    let w = c.args.wiring.now in
    let found = c.in-Some.ensures.found w text past keeps.run keeps.frames in
    taken_alone w text past c.args.id c.args.s c.in-Some.row c.is_just.result found.1 found.0
    (sym (none_by c.in-Some.row.sender c.is_none.result c.is_none.ensures) ∙ c.if-is_none.false) c.if-not-row.false c.is_just.ensures
