-- What is kept of the groups.
use Rattle.std.specs.Prelude.{ℕ, List, ◌∷◌, if◌then◌else◌, Option, None, Some}
use Rattle.std.specs.Option.{option_and_then}
use Rattle.std.specs.Ordering.{nat_cmp}
use Rattle.pl_frame.specs.declared.address.SwitchId.{SwitchId}
use Rattle.pl_layouts.specs.Equality.{same_switch}
use Rattle.pl_node.specs.declared.messages.TreePart.{TreePart}
use Rattle.pl_node.specs.ManagerViews.{Members, value_at}
use Rattle.pl_groups.specs.declared.groups.Groups.{Groups}
use Rattle.pl_groups.specs.declared.tree.Parts.{Parts}
use Rattle.pl_groups.specs.declared.tree.Tree.{Tree}

-- which edge switches have members of which groups
abbrev pub members_in : Groups → Members
members_in groups = groups.roster

-- the part of the first switch of some that is this one
abbrev pub part_beside : List SwitchId → List (Option TreePart) → SwitchId → Option TreePart
part_beside (x ∷ xs) (part ∷ parts) s = if same_switch x s then part else part_beside xs parts s
part_beside xs parts s = None

abbrev pub part_among : Parts → SwitchId → Option TreePart
part_among parts s = part_beside parts.switches parts.parts.items s

-- the part of a switch in a tree
abbrev pub part_in_tree : Option Tree → SwitchId → Option TreePart
part_in_tree None s = None
part_in_tree (Some tree) s = part_among tree.parts s

-- the part of a switch in the tree of a group as it was last made
abbrev pub part_kept : Groups → ℕ → SwitchId → Option TreePart
part_kept groups group s = part_in_tree (value_at nat_cmp groups.trees.entries group) s

-- and the core switch of that tree
abbrev pub core_kept : Groups → ℕ → Option SwitchId
core_kept groups group = option_and_then (λ (tree : Tree). tree.core) (value_at nat_cmp groups.trees.entries group)
