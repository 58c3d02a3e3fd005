-- What the manager keeps of the tree, and what it told the switches of it.
use Rattle.std.specs.Prelude.{◌≡◌, ℕ, not, List, [], map}
use Rattle.std.specs.List.{filter, flat_map}
use Rattle.pl_frame.specs.declared.address.SwitchId.{SwitchId}
use Rattle.pl_node.specs.declared.acts.ManagerAct.{ManagerAct}
use Rattle.pl_node.specs.declared.acts.ManagerAct.TheVariants.{Say}
use Rattle.pl_node.specs.declared.messages.ToSwitch.TheVariants as say
use Rattle.pl_node.specs.AvoidLists.{avoid_list}
use Rattle.pl_node.specs.ManagerFacts.{groups}
use Rattle.pl_node.specs.ManagerViews.{Members, Told, switches}
use Rattle.pl_node.specs.Trees.{tree_part}
use Rattle.pl_manager_rule.specs.ManagerRule.{same_part}
use Rattle.pl_faults.specs.Kept.{MatrixView, handed}
use Rattle.pl_groups.specs.Kept.{members_in, part_kept}
use Rattle.pl_groups.specs.declared.groups.Groups.{Groups}

-- what the switches told of their places and links, and of their members of groups
pub record RoutingView : Type 0 where
  pub told : Told
  pub members : Members

-- nothing was told
abbrev pub nothing_routed : RoutingView
nothing_routed = record { told = record { places = []; links = [] }; members = [] }

-- the same with the members that are kept
abbrev pub routed : Told → Groups → RoutingView
routed told kept = record { told = told; members = members_in kept }

-- the lists that were handed out, and the trees that are kept, are those of what was told then
pub record AreOf (told : Told) (matrix : MatrixView) (kept : Groups) : Type 0 where
  pub lists : (s : SwitchId) → handed matrix s ≡ avoid_list told s
  pub parts : (group : ℕ) (s : SwitchId) → part_kept kept group s ≡ tree_part told (members_in kept) group s

-- each switch whose part of a group's tree changed is sent the new one
abbrev pub tree_told_anew : RoutingView → RoutingView → ℕ → List ManagerAct
tree_told_anew before after group =
    map (λ s. Say s (say.Tree group (tree_part after.told after.members group s)))
    (filter (λ s. not (same_part (tree_part before.told before.members group s) (tree_part after.told after.members group s))) (switches after.told))

-- of all groups, by rising group
abbrev pub trees_told_anew : RoutingView → RoutingView → List ManagerAct
trees_told_anew before after = flat_map (tree_told_anew before after) (groups after.members)
