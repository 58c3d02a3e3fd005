-- Through which neighbours a switch is not to send, by what the switches told the fabric manager of their places and links.
use Rattle.std.specs.Prelude.{◌≡◌, ℕ, ◌+◌, ◌==◌, ◌&&◌, not, Bool, false, if◌then◌else◌, List, map, Option, Some, IsTrue, Contains}
use Rattle.std.specs.Bool.{IsFalse}
use Rattle.std.specs.List.{filter, flat_map, list_any}
use Rattle.std.specs.declared.cmp.Ordering.{Ordering}
use Rattle.std.specs.Ordering.{nat_cmp, ordering_then}
use Rattle.pl_frame.specs.declared.address.SwitchId.{SwitchId}
use Rattle.pl_node.specs.ManagerViews.{Told, PlacedEdge, alive_at_level, has_level, has_pod, id_cmp, in_order, is_alive, neighbours, place_of, placed_edges}
use Rattle.pl_layouts.specs.Equality.{same_switch}

-- From a core switch a frame goes on to an edge switch of a pod by an aggregation switch of that pod, over links that are alive.
abbrev pub core_leads_to : Told → ℕ → SwitchId → SwitchId → Bool
core_leads_to told pod t core = list_any (λ a. has_pod told a pod && is_alive told a t) (alive_at_level told core 1)

-- From an aggregation switch of the pod it goes on by the link to the edge switch, and from any other by a core switch.
abbrev pub aggregation_leads_to : Told → ℕ → SwitchId → SwitchId → Bool
aggregation_leads_to told pod t a =
    if has_pod told a pod then is_alive told a t else list_any (core_leads_to told pod t) (alive_at_level told a 2)

-- whether a switch above the edge switches leads on to the edge switch t of this pod
abbrev pub leads_to : Told → ℕ → SwitchId → SwitchId → Bool
leads_to told pod t u =
    if has_level told u 1 then aggregation_leads_to told pod t u
    else if has_level told u 2 then core_leads_to told pod t u
    else false

-- two levels, of which the second is one above the first
abbrev pub is_level_above : Option ℕ → Option ℕ → Bool
is_level_above (Some low) (Some high) = high == low + 1
is_level_above low high = false

-- the same of two switches, by the levels that they told
abbrev pub is_above : Told → SwitchId → SwitchId → Bool
is_above told s u = is_level_above (place_of told s).level (place_of told u).level

-- an aggregation switch sends frames for its own pod down
abbrev pub is_sent_down : Told → SwitchId → ℕ → Bool
is_sent_down told s pod = has_level told s 1 && has_pod told s pod

-- Switch s avoids its neighbour u for an address, given as a pod and a position, where some other edge switch is placed there to which u
-- does not lead.
pub record Avoids (told : Told) (s : SwitchId) (avoided : SwitchId × ℕ × ℕ) : Type 0 where
  pub neighbour : Contains (neighbours told s) avoided.0
  pub above : IsTrue (is_above told s avoided.0)
  pub edge : SwitchId
  pub placed : place_of told edge ≡ record { level = Some 0; position = Some avoided.2; pod = Some avoided.1 }
  pub another : IsFalse (same_switch edge s)
  pub not_down : IsFalse (is_sent_down told s avoided.1)
  pub cut : IsFalse (leads_to told avoided.1 edge avoided.0)

-- by id, then by pod, then by position
abbrev pub avoided_cmp : SwitchId × ℕ × ℕ → SwitchId × ℕ × ℕ → Ordering
avoided_cmp x y = ordering_then (ordering_then (id_cmp x.0 y.0) (nat_cmp x.1 y.1)) (nat_cmp x.2 y.2)

-- whether s, to which u is a neighbour above, avoids u for the address of this edge switch
abbrev pub is_cut : Told → SwitchId → SwitchId → PlacedEdge → Bool
is_cut told s u e = not (same_switch e.switch s) && (not (is_sent_down told s e.pod) && not (leads_to told e.pod e.switch u))

-- for which addresses s avoids u
abbrev pub avoided_at : Told → SwitchId → SwitchId → List (SwitchId × ℕ × ℕ)
avoided_at told s u = map (λ e. (u, e.pod, e.position)) (filter (is_cut told s u) (placed_edges told))

-- all that a switch avoids, in rising order
unfoldable pub avoid_list : Told → SwitchId → List (SwitchId × ℕ × ℕ)
avoid_list told s = in_order avoided_cmp (flat_map (avoided_at told s) (filter (is_above told s) (neighbours told s)))

-- whether an entry is for this pod and position
abbrev pub is_for : ℕ → ℕ → SwitchId × ℕ × ℕ → Bool
is_for pod position x = x.1 == pod && x.2 == position
