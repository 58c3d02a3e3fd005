use Rattle.std.proofs.Common.{◌∙◌, List, ℕ, ap, nat_cmp, subst, sym}
use Rattle.std.specs.BTreeSet.{insert_key}
use Rattle.std.specs.List.Sorted.{IsStrictlySortedBy}
use Rattle.pl_node.specs.ManagerFacts.{groups}
use Rattle.pl_node.specs.ManagerViews.{Members}
use Rattle.pl_manager_rule.proofs.Exports.{groups_rise}
use Rattle.pl_groups.proofs.Rostered.{groups_more}
use Rattle.pl_groups.proofs.roster.Roster.set.Goals as goal

pub insert_group-requires : goal.insert_group-requires
insert_group-requires c =
    subst (λ (xs : List ℕ). IsStrictlySortedBy nat_cmp xs) (sym (c.in_ok-reserve.ensures.items ∙ c.self.invariant)) (groups_rise c.self.inside.told.entries)

pub invariant_of-self-2 : goal.invariant_of-self-2
invariant_of-self-2 c =
    c.in_ok-insert_group.ensures.ok
    ∙ ap (λ (xs : List ℕ). insert_key nat_cmp xs c.args.group) (c.in_ok-reserve.ensures.items ∙ c.self.invariant)
    ∙ sym (ap (λ (ms : Members). groups ms) c.in_ok-insert.ensures.entries
    ∙ groups_more c.self.inside.told.entries c.args.edge c.args.group c.args.any)
