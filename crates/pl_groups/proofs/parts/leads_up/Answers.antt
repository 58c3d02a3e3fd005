use Rattle.std.proofs.Common.{◌∙◌, sym}
use Rattle.pl_node.specs.ManagerViews.{has_level, has_pod, is_alive}
use Rattle.pl_groups.proofs.Branches.{linked_is, up_far, up_near}
use Rattle.pl_groups.proofs.parts.leads_up.Goals as goal

pub returns-then-not-is_linked : goal.returns-then-not-is_linked
returns-then-not-is_linked c =
    let told = c.args.reports.now in let a = c.args.neighbour in let core = c.args.root.now.core in
    let linked = c.is_linked.ensures ∙ linked_is told c.args.root.now a c.requires in
    up_far (has_level told a 1) (has_pod told a c.args.pod) (is_alive told a core) (sym linked ∙ c.if-not-is_linked.true)

pub returns : goal.returns
returns c =
    let told = c.args.reports.now in let a = c.args.neighbour in let core = c.args.root.now.core in
    let linked = c.is_linked.ensures ∙ linked_is told c.args.root.now a c.requires in
    c.is_above.ensures
    ∙ up_near (has_level told a 1) (has_pod told a c.args.pod) (is_alive told a core) (sym linked ∙ c.if-not-is_linked.false)
