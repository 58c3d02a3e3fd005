use Rattle.std.proofs.Common.{◌∙◌, ◌++◌, ap, not}
use Rattle.std.specs.List.{filter, flat_map}
use Rattle.pl_switch_rule.specs.Intake.{has_member_of, is_member}
use Rattle.pl_edge.specs.Told.{told_if_none}
use Rattle.pl_edge.proofs.Placing.{became, kept}
use Rattle.pl_edge.proofs.TellsAll.{fewer_left, tells_emptied}
use Rattle.pl_edge.proofs.edge_table.EdgeTable.forget.Goals as goal

pub returns-in_err-tell_emptied-clause-kept : goal.returns-in_err-tell_emptied-clause-kept
returns-in_err-tell_emptied-clause-kept c =
    let inside = c.self.inside in
    kept c.args.self.now inside.k inside.address_table inside.remembered.items inside.remembered.items inside.members c.forget.new.self c.self.view_is

pub returns-clause-kept : goal.returns-clause-kept
returns-clause-kept c =
    let inside = c.self.inside in
    kept c.args.self.now inside.k inside.address_table inside.remembered.items inside.remembered.items inside.members c.forget.new.self c.self.view_is

pub returns-clause-taken : goal.returns-clause-taken
returns-clause-taken c = λ v.
    let inside = c.self.inside in
    let old = inside.members in
    let new = c.forget.new.self in
    let out = c.args.out.now in
    became c.args.self.now inside.k inside.address_table inside.remembered.items old new (filter (λ m. not (is_member c.args.port c.args.amac m))) out c.tell_emptied.new.out
    c.self.view_is c.forget.ensures
    (c.in_ok-tell_emptied.ensures
    ∙ ap (λ groups. out ++ flat_map (told_if_none new) groups) (c.as_slice.ensures.value ∙ c.in_ok-groups.ensures)
    ∙ ap (λ acts. out ++ acts) (tells_emptied old new
    (λ q none. ap (λ ms. has_member_of ms q) c.forget.ensures ∙ fewer_left (λ m. not (is_member c.args.port c.args.amac m)) old q none)))
    v
