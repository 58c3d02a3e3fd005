use Rattle.std.proofs.Common.{◌∙◌, ◌++◌, ap}
use Rattle.std.specs.List.{fold}
use Rattle.pl_frame.specs.Ethernet.{source_of}
use Rattle.pl_layouts.specs.Memberships.{changes_in}
use Rattle.pl_switch_rule.specs.Intake.{changes_member}
use Rattle.pl_edge.proofs.Placing.{became, kept}
use Rattle.pl_edge.proofs.TellsAll.{tells_all}
use Rattle.pl_edge.proofs.edge_table.EdgeTable.hear_members.Goals as goal

pub returns-in_err-change_all-clause-kept : goal.returns-in_err-change_all-clause-kept
returns-in_err-change_all-clause-kept c =
    let inside = c.self.inside in
    kept c.args.self.now inside.k inside.address_table inside.remembered.items inside.remembered.items inside.members c.change_all.new.members c.self.view_is

pub returns-in_err-tell-clause-kept : goal.returns-in_err-tell-clause-kept
returns-in_err-tell-clause-kept c =
    let inside = c.self.inside in
    kept c.args.self.now inside.k inside.address_table inside.remembered.items inside.remembered.items inside.members c.change_all.new.members c.self.view_is

pub returns-clause-kept : goal.returns-clause-kept
returns-clause-kept c =
    let inside = c.self.inside in
    kept c.args.self.now inside.k inside.address_table inside.remembered.items inside.remembered.items inside.members c.change_all.new.members c.self.view_is

pub returns-clause-taken : goal.returns-clause-taken
returns-clause-taken c = λ v.
    let inside = c.self.inside in
    let old = inside.members in
    let new = c.change_all.new.members in
    let out = c.args.out.now in
    let port = c.args.port in
    became c.args.self.now inside.k inside.address_table inside.remembered.items old new
    (λ ms. fold (changes_member port (source_of c.args.frame.now)) ms (changes_in c.args.frame.now)) out c.tell.new.out c.self.view_is
    (c.in_ok-change_all.ensures.changed ∙ ap (λ frame. fold (changes_member port (source_of frame)) old (changes_in frame)) c.bytes.ensures)
    (c.in_ok-tell.ensures ∙ ap (λ acts. out ++ acts) (tells_all old new c.change_all.new.before c.in_ok-change_all.ensures.noted))
    v
