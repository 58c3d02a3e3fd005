-- What the manager tells of lists and trees that changed.
use Rattle.std.specs.Prelude.{◌≡◌, ℕ, ◌==◌, ◌++◌, true, false, not, List, map}
use Rattle.std.specs.List.{filter, flat_map, list_any}
use Rattle.pl_frame.specs.declared.address.SwitchId.{SwitchId}
use Rattle.pl_node.specs.declared.acts.ManagerAct.{ManagerAct}
use Rattle.pl_node.specs.declared.acts.ManagerAct.TheVariants.{Say}
use Rattle.pl_node.specs.declared.messages.ToSwitch.TheVariants as say
use Rattle.pl_node.specs.AvoidLists.{avoid_list}
use Rattle.pl_node.specs.ManagerFacts.{groups}
use Rattle.pl_node.specs.ManagerViews.{Told, switches}
use Rattle.pl_node.specs.Trees.{tree_part}
use Rattle.pl_manager_rule.specs.ManagerRule.{same_part}
use Rattle.pl_groups.specs.Kept.{members_in, part_kept}
use Rattle.pl_groups.specs.declared.groups.Groups.{Groups}

-- floods, and the groups of which members were told
abbrev pub listed_groups : Groups → List ℕ
listed_groups kept = groups (members_in kept)

-- each of these switches is sent its list
abbrev pub lists_told : Told → List SwitchId → List ManagerAct
lists_told told changed = map (λ s. Say s (say.Avoid (avoid_list told s))) changed

-- each of these is sent its part of a group's tree
abbrev pub parts_told : Groups → ℕ → List SwitchId → List ManagerAct
parts_told groups group changed = map (λ s. Say s (say.Tree group (part_kept groups group s))) changed

-- what a renewal of a group's tree has the manager tell
abbrev pub tree_told : Told → Groups → ℕ → List ManagerAct
tree_told told groups group =
    map (λ s. Say s (say.Tree group (tree_part told (members_in groups) group s)))
    (filter (λ s. not (same_part (part_kept groups group s) (tree_part told (members_in groups) group s))) (switches told))

-- The trees of some groups were made anew, one after the other, and what changed was told.
pub record AreTreesRenewed (told : Told) (some : List ℕ) (before after : Groups) (out out_after : List ManagerAct) : Type 0 where
  pub acts : out_after ≡ out ++ flat_map (tree_told told before) some
  pub renewed : (g : ℕ) (s : SwitchId) → list_any (λ h. h == g) some ≡ true → part_kept after g s ≡ tree_part told (members_in before) g s
  pub others : (g : ℕ) (s : SwitchId) → list_any (λ h. h == g) some ≡ false → part_kept after g s ≡ part_kept before g s
  pub members : members_in after ≡ members_in before
