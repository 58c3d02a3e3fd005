-- The placed edge switches to which a switch does not lead on, and what the switches below it avoid for them.
use Rattle.std.specs.Prelude.{◌≡◌, ◌==◌, ◌&&◌, ℕ, Bool, true, false, not, List, [], ◌∷◌, ◌++◌, if◌then◌else◌, Option, Some, None, Contains, fold, map, unwrap_or}
use Rattle.std.specs.List.{filter}
use Rattle.std.specs.BTreeSet.{insert_key}
use Rattle.pl_frame.specs.declared.address.SwitchId.{SwitchId}
use Rattle.pl_layouts.specs.declared.place.Place.{Place}
use Rattle.pl_layouts.specs.Equality.{same_switch}
use Rattle.pl_layouts.specs.Placement.{is_known}
use Rattle.pl_node.specs.ManagerViews.{Told, id_cmp, neighbours, place_of, placed_edges, value_at}
use Rattle.pl_node.specs.AvoidLists.{avoided_cmp, is_level_above}
use Rattle.pl_faults.specs.declared.edges.Edge.{Edge}
use Rattle.pl_faults.specs.declared.leading.Leading.{Leading}
use Rattle.pl_faults.specs.declared.reach.Reach.{Reach}
use Rattle.pl_faults.specs.Listed.{AreHeard, is_in}
use Rattle.pl_faults.specs.Making.{Avoided, entry_at, placed_as}
use Rattle.pl_faults.specs.Numbered.{has_bit_at, has_number}
use Rattle.pl_faults.specs.Rows.{IsReach, leads_on}

-- for each switch those that it misses
abbrev pub Misses : Type 0
Misses = List (SwitchId × List Edge)

-- a level above that of the edge switches
abbrev pub is_upper : Option ℕ → Bool
is_upper None = false
is_upper (Some level) = not (level == 0)

-- those to which u does not lead on
abbrev pub missed_by : Told → List Edge → SwitchId → List Edge
missed_by told edges u = filter (λ e. not (leads_on told e u)) edges

-- the same of the switches above the edge switches; of others none are asked for
abbrev pub missed_at : Told → List Edge → SwitchId → List Edge
missed_at told edges u = if is_upper (place_of told u).level then missed_by told edges u else []

abbrev pub missed_in : Misses → SwitchId → List Edge
missed_in missed u = unwrap_or (value_at id_cmp missed u) []

abbrev pub AreMissed : Told → List Edge → Misses → Type 0
AreMissed told edges missed = (u : SwitchId) → missed_in missed u ≡ missed_at told edges u

abbrev pub is_some_edge : List Edge → Bool
is_some_edge [] = false
is_some_edge (e ∷ es) = true

-- the placed edge switches, where the switches lead on to, which edge switches each misses, and who told of it
pub record IsLeading (told : Told) (leading : Leading) : Type 0 where
  pub placed : map placed_as leading.edges.items ≡ placed_edges told
  pub reach : IsReach told leading.edges.items leading.reach
  pub missed_are : AreMissed told leading.edges.items leading.misses.entries
  pub heard : AreHeard told leading.hearers.entries

-- the same by what is told now, and all but those that turned miss what they missed
pub record IsTurned (told : Told) (old new : Leading) (turned : List SwitchId) : Type 0 where
  pub leading : IsLeading told new
  pub same : (t : SwitchId) → is_in turned t ≡ false → missed_in new.misses.entries t ≡ missed_in old.misses.entries t

-- rows and what is missed, by what is told now, and all but those that turned miss what they missed
pub record AreMissedAnew (told : Told) (edges : List Edge) (known : Reach) (old new : Misses) (turned : List SwitchId) : Type 0 where
  pub reach : IsReach told edges known
  pub missed_are : AreMissed told edges new
  pub same : (t : SwitchId) → is_in turned t ≡ false → missed_in new t ≡ missed_in old t

-- what some switches miss is put down anew, and all but the changed ones miss what they missed
pub record AreMissesRenewed (told : Told) (edges : List Edge) (asked : List SwitchId) (old new : Misses) (changed : List SwitchId) : Type 0 where
  pub now : (t : SwitchId) → missed_in new t ≡ (if is_in asked t then missed_at told edges t else missed_in old t)
  pub same : (t : SwitchId) → is_in changed t ≡ false → missed_in new t ≡ missed_in old t

-- whether a switch at this place sends down for a pod
abbrev pub sends_down : Place → ℕ → Bool
sends_down place pod = is_known place.level 1 && is_known place.pod pod

-- whether s at this place avoids a neighbour above for an edge switch that the neighbour misses
abbrev pub is_avoided : Place → SwitchId → Edge → Bool
is_avoided place s e = not (same_switch e.switch s) && not (sends_down place e.pod)

-- for which addresses s at this place avoids its neighbour u above, by those that u misses
abbrev pub avoided_of : Place → SwitchId → SwitchId → List Edge → List Avoided
avoided_of place s u es = map (λ e. (u, e.pod, e.position)) (filter (is_avoided place s) es)

-- the bit of an edge switch has this number, and s at this place avoids a neighbour above for it
abbrev pub is_numbered : Place → SwitchId → ℕ → Edge → Bool
is_numbered place s n e = is_avoided place s e && has_bit_at n e

-- whether s at this place avoids a neighbour above for an edge switch that has no bit
abbrev pub is_other : Place → SwitchId → Edge → Bool
is_other place s e = not (has_number e) && is_avoided place s e

-- one more that u misses and that has no bit
abbrev pub with_other : Place → SwitchId → SwitchId → List Avoided → Edge → List Avoided
with_other place s u list e = if is_other place s e then insert_key avoided_cmp list (u, e.pod, e.position) else list

-- one more that is led to or not
abbrev pub with_unled : Bool → List Edge → Edge → List Edge
with_unled leads missed e = if not leads then missed ++ e ∷ [] else missed

-- whether an edge switch is at this place
abbrev pub is_there : Edge → Edge → Bool
is_there e f = (e.pod == f.pod) && (e.position == f.position)

-- no two of them are at one place
pub record AreApart (es : List Edge) : Type 0 where
  pub each : (e f : Edge) → Contains es e → Contains es f → is_there e f ≡ true → e ≡ f

-- all that u misses, if it is above this level
abbrev pub with_above : Told → Misses → Option ℕ → List Avoided → SwitchId → List Avoided
with_above told misses level list u =
    if is_level_above level (place_of told u).level then fold (insert_key avoided_cmp) list (map (entry_at u) (missed_in misses u)) else list

-- the same of all neighbours of a switch
abbrev pub missed_above : Told → Misses → Option ℕ → SwitchId → List Avoided
missed_above told misses level s = fold (with_above told misses level) [] (neighbours told s)

-- one more that has no bit
abbrev pub with_unnumbered : SwitchId → List Avoided → Edge → List Avoided
with_unnumbered u list e = if not (has_number e) then insert_key avoided_cmp list (entry_at u e) else list
