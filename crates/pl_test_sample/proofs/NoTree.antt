-- Where nothing was told, no switch has a part of a tree.
use Rattle.std.proofs.Common.{◌≡◌, ℕ, ◌==◌, Bool, true, false, if◌then◌else◌, [], map, None, refl, ap}
use Rattle.std.specs.Option.{option_and_then}
use Rattle.pl_frame.specs.declared.address.SwitchId.{SwitchId}
use Rattle.pl_node.specs.ManagerViews.{Told, placed_edges, with_members}
use Rattle.pl_layouts.specs.Memberships.{flood}
use Rattle.pl_node.specs.Trees.{core_for, core_of, part_under, tree_part}

-- what a manager knows at boot
abbrev nothing : Told
nothing = record { places = []; links = [] }

nobody : (test : Bool) (group : ℕ) → (if test then map (λ e. e.switch) (placed_edges nothing) else with_members [] group) ≡ []
nobody true group = refl
nobody false group = refl

pub no_tree : (group : ℕ) (s : SwitchId) → tree_part nothing [] group s ≡ None
unfolding core_of tree_part
no_tree group s =
    ap (λ needed. option_and_then (part_under nothing needed s) (core_for nothing group needed)) (nobody (group == flood) group)
