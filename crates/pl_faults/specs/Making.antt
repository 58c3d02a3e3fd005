-- An avoid list as it is made, item by item.
use Rattle.std.specs.Prelude.{ℕ, List, [], ◌∷◌, ◌++◌, if◌then◌else◌, Option, Some, None, fold}
use Rattle.std.specs.BTreeSet.{insert_key}
use Rattle.pl_frame.specs.declared.address.SwitchId.{SwitchId}
use Rattle.pl_node.specs.ManagerViews.{PlacedEdge, Told}
use Rattle.pl_node.specs.AvoidLists.{avoided_at, avoided_cmp, is_above}
use Rattle.pl_faults.specs.declared.edges.Edge.{Edge}

-- id, pod and position
abbrev pub Avoided : Type 0
Avoided = SwitchId × ℕ × ℕ

-- a placed edge switch, without what is kept besides
abbrev pub placed_as : Edge → PlacedEdge
placed_as e = record { switch = e.switch; pod = e.pod; position = e.position }

-- the placed edge switches, with one more if there is one
abbrev pub with_placed : List PlacedEdge → Option PlacedEdge → List PlacedEdge
with_placed edges None = edges
with_placed edges (Some e) = edges ++ e ∷ []

-- all for which s avoids one more neighbour
unfoldable pub with_neighbour : Told → SwitchId → List Avoided → SwitchId → List Avoided
with_neighbour told s list u = if is_above told s u then fold (insert_key avoided_cmp) list (avoided_at told s u) else list

-- what an edge switch that a neighbour misses stands for
abbrev pub entry_at : SwitchId → Edge → Avoided
entry_at u e = (u, e.pod, e.position)
