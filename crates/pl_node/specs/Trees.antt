-- The tree of a group: one core switch, the aggregation switches that it reaches, and the edge switches that need the group.
use Rattle.std.specs.Prelude.{ℕ, ◌%◌, ◌==◌, ◌&&◌, Bool, if◌then◌else◌, List, [], ◌∷◌, length, map, max, Option, Some, None, slice_get}
use Rattle.std.specs.List.{filter, find, list_any, fold}
use Rattle.std.specs.Option.{option_and_then, option_map}
use Rattle.pl_frame.specs.declared.address.SwitchId.{SwitchId}
use Rattle.pl_node.specs.declared.messages.TreePart.{TreePart}
use Rattle.pl_layouts.specs.Memberships.{flood}
use Rattle.pl_node.specs.ManagerViews.{Members, Told, PlacedEdge, alive_at_level, edge_at, has_level, has_pod, is_alive, place_of, placed_edges, switches, with_members}
use Rattle.pl_layouts.specs.Equality.{same_switch}

-- the edge switches that a group needs: those with members; floods need all that are placed
abbrev pub needed_edges : Told → Members → ℕ → List SwitchId
needed_edges told members group = if group == flood then map (λ e. e.switch) (placed_edges told) else with_members members group

-- an aggregation switch that has an alive link to a needed edge switch
abbrev pub serves : Told → List SwitchId → SwitchId → Bool
serves told needed a = list_any (is_alive told a) needed

-- whether an alive aggregation link and an alive edge link lead from a core switch to an edge switch
abbrev pub core_reaches : Told → SwitchId → SwitchId → Bool
core_reaches told core e = list_any (λ a. is_alive told a e) (alive_at_level told core 1)

-- how many needed edge switches a core switch reaches
abbrev pub reach : Told → List SwitchId → SwitchId → ℕ
reach told needed core = length (filter (core_reaches told core) needed)

-- the switches that told that they are core switches, by rising id
abbrev pub cores : Told → List SwitchId
cores told = filter (λ c. has_level told c 2) (switches told)

-- the largest number of a list
abbrev pub largest : List ℕ → ℕ
largest ns = fold max 0 ns

-- the core switches of the largest reach, by rising id
abbrev pub best_cores : Told → List SwitchId → List SwitchId
best_cores told needed = filter (λ c. reach told needed c == largest (map (reach told needed) (cores told))) (cores told)

-- the group takes its turn among them
abbrev pub turn : ℕ → List SwitchId → Option SwitchId
turn group best = slice_get best (group % length best)

-- a group that needs no edge switch has no core switch
abbrev pub core_for : Told → ℕ → List SwitchId → Option SwitchId
core_for told group [] = None
core_for told group (e ∷ needed) = turn group (best_cores told (e ∷ needed))

-- the core switch of a group, if it has one
unfoldable pub core_of : Told → Members → ℕ → Option SwitchId
core_of told members group = core_for told group (needed_edges told members group)

-- The core switch of the tree sends to its aggregation switches that serve a needed edge switch.
abbrev pub core_part : Told → List SwitchId → SwitchId → TreePart
core_part told needed core = record { up = None; down = filter (serves told needed) (alive_at_level told core 1) }

-- An aggregation switch sends up to that core switch, and down to the needed edge switches.
abbrev pub aggregation_part : Told → List SwitchId → SwitchId → SwitchId → TreePart
aggregation_part told needed core a = record { up = Some core; down = filter (is_alive told a) needed }

-- An edge switch sends up to the first aggregation switch of its pod that is linked to that core switch.
abbrev pub edge_part : Told → SwitchId → PlacedEdge → TreePart
edge_part told core e = record {
  up = find (λ a. has_pod told a e.pod && is_alive told a core) (alive_at_level told e.switch 1);
  down = [];
}

-- no other switch has a part
abbrev pub part_under : Told → List SwitchId → SwitchId → SwitchId → Option TreePart
part_under told needed s core =
    if same_switch s core then Some (core_part told needed core)
    else if has_level told s 1 && is_alive told s core then Some (aggregation_part told needed core s)
    else option_map (edge_part told core) (edge_at s (place_of told s))

-- the part of a switch in the tree of a group; none where the group has no core switch
unfoldable pub tree_part : Told → Members → ℕ → SwitchId → Option TreePart
tree_part told members group s = option_and_then (part_under told (needed_edges told members group) s) (core_of told members group)
