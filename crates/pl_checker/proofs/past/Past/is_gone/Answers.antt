use Rattle.std.proofs.Common.{◌∙◌, ap, ap₂, sym}
use Rattle.pl_journal.specs.Causes.{has_left}
use Rattle.pl_journal.specs.Places.{edge_port}
use Rattle.pl_checker.proofs.Ended.{group_is_gone, host_has_left, sender_has_left}
use Rattle.pl_past_tables.proofs.Exports.{group_by_row}
use Rattle.pl_checker.proofs.past.Past.is_gone.Goals as goal

pub returns-then-is_some : goal.returns-then-is_some
returns-then-is_some c = λ text past id keeps is.
    group_is_gone c.args.wiring.now past id (sym (group_by_row c.args.wiring.now text past id c.args.row.now is) ∙ sym c.is_some.ensures ∙ c.if-is_some.true)

pub returns-then-has_left : goal.returns-then-has_left
returns-then-has_left c = λ text past id keeps is.
    let w = c.args.wiring.now in
    host_has_left w past id c.has_left.result
    (c.has_left.ensures text past keeps
    ∙ ap₂ (has_left w past) (c.addressee-host.ensures text past id keeps is) (c.point_of-there.ensures past keeps.addresses ∙ ap (edge_port past) is.address))
    c.if-has_left.true

pub returns : goal.returns
returns c = λ text past id keeps is.
    let w = c.args.wiring.now in
    sender_has_left w past id c.has_left.result c.is_left_behind.result
    (sym (group_by_row w text past id c.args.row.now is) ∙ sym c.is_some.ensures ∙ c.if-is_some.false)
    (c.has_left.ensures text past keeps
    ∙ ap₂ (has_left w past) (c.addressee-host.ensures text past id keeps is) (c.point_of-there.ensures past keeps.addresses ∙ ap (edge_port past) is.address))
    c.if-has_left.false (c.is_left_behind.ensures text past id keeps is)
