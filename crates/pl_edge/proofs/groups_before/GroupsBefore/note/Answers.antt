use Rattle.std.proofs.Common.{◌∙◌, ap, nat_cmp, sym}
use Rattle.std.specs.BTreeMap.{insert_entry}
use Rattle.pl_edge.specs.Told.{notes}
use Rattle.pl_edge.proofs.Noting.{already, newly}
use Rattle.pl_edge.proofs.groups_before.GroupsBefore.note.Goals as goal

pub returns-in_ok-insert : goal.returns-in_ok-insert
returns-in_ok-insert c =
    let entries = c.self.inside.groups.entries in
    c.in_ok-insert.ensures.entries
    ∙ ap (λ had. insert_entry nat_cmp entries c.args.group had) c.has_members.ensures
    ∙ newly c.args.members.now entries c.args.group (sym c.contains_key.ensures ∙ c.if-not-contains_key.true)
    ∙ ap (λ groups. notes c.args.members.now groups c.args.group) c.self.view_is

pub returns-else-not-contains_key : goal.returns-else-not-contains_key
returns-else-not-contains_key c =
    sym c.self.view_is
    ∙ already c.args.members.now c.self.inside.groups.entries c.args.group (sym c.contains_key.ensures ∙ c.if-not-contains_key.false)
    ∙ ap (λ groups. notes c.args.members.now groups c.args.group) c.self.view_is
