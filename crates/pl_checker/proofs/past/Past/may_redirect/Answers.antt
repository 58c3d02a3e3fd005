use Rattle.std.proofs.Common.{◌∙◌, sym}
use Rattle.pl_checker.proofs.Redirects.{does_not_turn, goes_to_newer, new_is_gone, none_redirected, old_is_gone, other_address, turns_by_row}
use Rattle.pl_checker.proofs.past.Past.may_redirect.Goals as goal

pub returns-in_default : goal.returns-in_default
returns-in_default c = λ text past keeps.
    none_redirected c.args.wiring.now past c.args.id c.args.old c.args.new (c.in_default.ensures.none c.args.wiring.now text past keeps.run keeps.frames)

pub returns-then-row-from : goal.returns-then-row-from
returns-then-row-from c = λ text past keeps.
    let w = c.args.wiring.now in
    let found = c.in-Some.ensures.found w text past keeps.run keeps.frames in
    other_address w text past c.args.id c.number_of-from.result c.args.old c.args.new c.in-Some.row found.1 c.number_of-from.ensures c.if-row-from.true

pub returns-then-not-is_turning : goal.returns-then-not-is_turning
returns-then-not-is_turning c = λ text past keeps.
    let w = c.args.wiring.now in
    let found = c.in-Some.ensures.found w text past keeps.run keeps.frames in
    does_not_turn w past c.args.id c.args.old c.args.new
    (sym (turns_by_row w text past c.args.id c.number_of-from.result c.args.old c.in-Some.row _ found.1 c.number_of-from.ensures
    (c.point_of-there.ensures past keeps.addresses))
    ∙ sym c.is_turning.ensures ∙ c.if-not-is_turning.true)

pub returns-then-not-is_live : goal.returns-then-not-is_live
returns-then-not-is_live c = λ text past keeps.
    old_is_gone c.args.wiring.now past c.args.id c.number_of-from.result c.args.old c.args.new c.is_live.result c.number_of-from.ensures
    (c.is_live.ensures past keeps.holders) c.if-not-is_live.true

pub returns-then-not-is_live-2 : goal.returns-then-not-is_live-2
returns-then-not-is_live-2 c = λ text past keeps.
    new_is_gone c.args.wiring.now past c.args.id c.number_of-to.result c.args.old c.args.new c.is_live-2.result c.number_of-to.ensures
    (c.is_live-2.ensures past keeps.holders) c.if-not-is_live-2.true

pub returns : goal.returns
returns c = λ text past keeps.
    let w = c.args.wiring.now in
    let found = c.in-Some.ensures.found w text past keeps.run keeps.frames in
    goes_to_newer w past c.args.id c.number_of-from.result c.number_of-to.result c.args.old c.args.new c.is_newer.result found.0 c.number_of-from.ensures
    c.number_of-to.ensures
    (sym found.1.address ∙ c.if-row-from.false ∙ c.number_of-from.ensures)
    (sym (turns_by_row w text past c.args.id c.number_of-from.result c.args.old c.in-Some.row _ found.1 c.number_of-from.ensures
    (c.point_of-there.ensures past keeps.addresses))
    ∙ sym c.is_turning.ensures ∙ c.if-not-is_turning.false)
    (sym (c.is_live.ensures past keeps.holders) ∙ c.if-not-is_live.false) (sym (c.is_live-2.ensures past keeps.holders) ∙ c.if-not-is_live-2.false)
    (c.is_newer.ensures past keeps.addresses)
