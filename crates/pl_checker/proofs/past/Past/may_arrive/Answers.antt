use Rattle.std.proofs.Common.{sym, ◌∙◌}
use Rattle.pl_checker.proofs.Arrives.{group_arrives, none_arrives, one_arrives}
use Rattle.pl_past_tables.proofs.Exports.{group_by_row}
use Rattle.pl_checker.proofs.past.Past.may_arrive.Goals as goal

pub returns-in_default : goal.returns-in_default
returns-in_default c = λ past keeps.
    none_arrives c.args.wiring.now past c.args.id c.args.host c.args.frame.now
    (c.in_default.ensures.none c.args.wiring.now c.args.text.now past keeps.run keeps.frames)

pub returns-then-is_some : goal.returns-then-is_some
returns-then-is_some c = λ past keeps.
    let w = c.args.wiring.now in
    let found = c.in-Some.ensures.found w c.args.text.now past keeps.run keeps.frames in
    group_arrives w past c.args.id c.args.host c.args.frame.now c.in_ok-by_group.by_group found.0
    (sym (group_by_row w c.args.text.now past c.args.id c.in-Some.row found.1) ∙ sym c.is_some.ensures ∙ c.if-is_some.true)
    (c.in_ok-by_group.ensures past c.args.id keeps found.1)

pub returns : goal.returns
returns c = λ past keeps.
    let w = c.args.wiring.now in
    let found = c.in-Some.ensures.found w c.args.text.now past keeps.run keeps.frames in
    one_arrives w past c.args.id c.args.host c.args.frame.now c.in_ok-by_address.by_address found.0
    (sym (group_by_row w c.args.text.now past c.args.id c.in-Some.row found.1) ∙ sym c.is_some.ensures ∙ c.if-is_some.false)
    (c.in_ok-by_address.ensures past c.args.id keeps found.1)
