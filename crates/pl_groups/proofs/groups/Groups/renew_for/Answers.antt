use Rattle.std.proofs.Common.{◌∙◌, Some, Option, ap, filter, nat_cmp, not, sym}
use Rattle.std.proofs.lemmas.Cmp.{nat_cmp_total}
use Rattle.std.specs.Option.{option_and_then}
use Rattle.pl_frame.specs.declared.address.SwitchId.{SwitchId}
use Rattle.pl_node.specs.ManagerViews.{switches, value_at}
use Rattle.pl_node.specs.Trees.{tree_part}
use Rattle.pl_manager_rule.specs.ManagerRule.{same_part}
use Rattle.pl_manager_rule.proofs.Exports.{value_put}
use Rattle.pl_groups.specs.Kept.{members_in, part_in_tree, part_kept}
use Rattle.pl_groups.specs.declared.tree.Tree.{Tree}
use Rattle.pl_groups.proofs.Bare.{no_core, no_parts, none_differs}
use Rattle.pl_groups.proofs.Branches.{core_is, part_is}
use Rattle.pl_groups.proofs.groups.Groups.renew_for.Goals as goal

pub returns-then-is_bare-clause-changed : goal.returns-then-is_bare-clause-changed
returns-then-is_bare-clause-changed c =
    let told = c.args.reports.now in let members = members_in c.args.self.now in
    let group = c.args.group in
    c.new.ensures
    ∙ none_differs (part_kept c.args.self.now group) (tree_part told members group)
    (λ s. ap (λ (o : Option Tree). part_in_tree o s) (sym c.get.ensures.value) ∙ c.is_bare.ensures.parts c.if-is_bare.true s)
    (no_parts told members group c.args.needed.now c.requires.needed (sym c.is_empty.ensures ∙ c.if-is_empty.true)) (switches told)

pub returns-then-is_bare-clause-parts : goal.returns-then-is_bare-clause-parts
returns-then-is_bare-clause-parts c = λ s.
    ap (λ (o : Option Tree). part_in_tree o s) (sym c.get.ensures.value)
    ∙ c.is_bare.ensures.parts c.if-is_bare.true s
    ∙ sym (no_parts c.args.reports.now (members_in c.args.self.now) c.args.group c.args.needed.now c.requires.needed
    (sym c.is_empty.ensures ∙ c.if-is_empty.true) s)

pub returns-then-is_bare-clause-core : goal.returns-then-is_bare-clause-core
returns-then-is_bare-clause-core c =
    ap (option_and_then (λ (t : Tree). t.core)) (sym c.get.ensures.value)
    ∙ c.is_bare.ensures.core c.if-is_bare.true
    ∙ no_core c.args.reports.now (members_in c.args.self.now) c.args.group c.args.needed.now c.requires.needed
    (sym c.is_empty.ensures ∙ c.if-is_empty.true)

pub returns-clause-changed : goal.returns-clause-changed
returns-clause-changed c =
    let told = c.args.reports.now in let members = members_in c.args.self.now in
    c.in_ok-changed.ensures
    ∙ (λ i. filter (λ (s : SwitchId). not (same_part (part_in_tree (c.get-2.ensures.value i) s)
    (part_is told members c.args.group c.args.needed.now c.in_ok-tree.tree.core (part_in_tree (Some c.in_ok-tree.tree) s) s c.requires.needed
    c.in_ok-tree.ensures.core (c.in_ok-tree.ensures.parts s) i))) (switches told))

pub returns-clause-parts : goal.returns-clause-parts
returns-clause-parts c = λ s.
    let told = c.args.reports.now in let members = members_in c.args.self.now in
    ap (λ (o : Option Tree). part_in_tree o s)
    (ap (λ es. value_at nat_cmp es c.args.group) c.in_ok-insert.ensures.entries
    ∙ value_put nat_cmp nat_cmp_total c.args.self.now.trees.entries c.args.group c.in_ok-tree.tree)
    ∙ part_is told members c.args.group c.args.needed.now c.in_ok-tree.tree.core (part_in_tree (Some c.in_ok-tree.tree) s) s c.requires.needed
    c.in_ok-tree.ensures.core (c.in_ok-tree.ensures.parts s)

pub returns-clause-core : goal.returns-clause-core
returns-clause-core c =
    ap (option_and_then (λ (t : Tree). t.core))
    (ap (λ es. value_at nat_cmp es c.args.group) c.in_ok-insert.ensures.entries
    ∙ value_put nat_cmp nat_cmp_total c.args.self.now.trees.entries c.args.group c.in_ok-tree.tree)
    ∙ core_is c.args.reports.now (members_in c.args.self.now) c.args.group c.args.needed.now c.in_ok-tree.tree.core c.requires.needed
    c.in_ok-tree.ensures.core
