-- Where the switches above the edge switches lead on to, in rows: for each switch a value for each placed edge switch.
use Rattle.std.specs.Prelude.{◌≡◌, ◌&&◌, ℕ, Bool, true, false, List, [], if◌then◌else◌, Option, map, slice_index_or, unwrap_or}
use Rattle.std.specs.List.{list_any}
use Rattle.pl_bits.specs.Rows.{either_row}
use Rattle.pl_frame.specs.declared.address.SwitchId.{SwitchId}
use Rattle.pl_layouts.specs.declared.place.Place.{Place}
use Rattle.pl_layouts.specs.Placement.{is_known}
use Rattle.pl_node.specs.ManagerViews.{Told, alive_neighbours, has_level, has_pod, id_cmp, is_alive, value_at}
use Rattle.pl_node.specs.AvoidLists.{leads_to}
use Rattle.pl_faults.specs.declared.edges.Edge.{Edge}
use Rattle.pl_faults.specs.declared.reach.Reach.{Reach}
use Rattle.pl_faults.specs.Listed.{is_in}

-- what a row says of one switch
abbrev pub RowOfSwitch : Type 0
RowOfSwitch = Edge → SwitchId → Bool

-- down, by the link to an edge switch of the own pod
abbrev pub leads_down : Told → RowOfSwitch
leads_down told e u = has_pod told u e.pod && is_alive told u e.switch

-- by some neighbour of a level, over a link that is alive, as f says of the neighbour
abbrev pub leads_by : Told → ℕ → RowOfSwitch → RowOfSwitch
leads_by told level f e u = list_any (λ x. has_level told x level && f e x) (alive_neighbours told u)

-- by some neighbour or not at all
abbrev pub leads_on : Told → RowOfSwitch
leads_on told e u = leads_to told e.pod e.switch u

abbrev pub row_of : RowOfSwitch → List Edge → SwitchId → List Bool
row_of f edges u = map (λ e. f e u) edges

-- tables of rows
abbrev pub Rows : Type 0
Rows = List (SwitchId × List Bool)

abbrev pub row_or_none : Option (List Bool) → List Bool
row_or_none row = unwrap_or row []

-- the row of a switch; an empty one where it has none
abbrev pub row_in : Rows → SwitchId → List Bool
row_in rows u = row_or_none (value_at id_cmp rows u)

-- a row that only the switches of one level have
abbrev pub row_at_level : Told → ℕ → RowOfSwitch → List Edge → SwitchId → List Bool
row_at_level told level f edges u = if has_level told u level then row_of f edges u else []

-- the rows of all switches, filled at one level
pub record AreLevelRows (told : Told) (level : ℕ) (edges : List Edge) (f : RowOfSwitch) (rows : Rows) : Type 0 where
  pub all : (u : SwitchId) → row_in rows u ≡ row_at_level told level f edges u

-- the three kinds of rows
pub record IsReach (told : Told) (edges : List Edge) (reach : Reach) : Type 0 where
  pub by_link : AreLevelRows told 1 edges (leads_down told) reach.down.entries
  pub by_core : AreLevelRows told 2 edges (leads_by told 1 (leads_down told)) reach.core.entries
  pub by_two : AreLevelRows told 1 edges (leads_by told 2 (leads_by told 1 (leads_down told))) reach.up.entries

-- a row, with that of a neighbour if it is to be added
abbrev pub with_row : Bool → List Bool → List Bool → List Bool
with_row false more row = row
with_row true more row = either_row row more

abbrev pub value_of : List Bool → ℕ → Bool
value_of row i = slice_index_or row i false

-- what the row of a switch says of edge switch number i
abbrev pub value_in : Rows → SwitchId → ℕ → Bool
value_in rows u i = value_of (row_in rows u) i

-- whether a switch at this place leads on to an edge switch, by what its rows say of that one
abbrev pub leads_at : Place → Edge → Bool → Bool → Bool → Bool
leads_at place e down core up =
    if is_known place.level 1 then (if is_known place.pod e.pod then down else up)
    else (if is_known place.level 2 then core else false)

-- the rows that were asked for are made anew, and all but the changed ones are what they were
pub record AreRowsRenewed (fresh : SwitchId → List Bool) (asked : List SwitchId) (rows after : Rows) (changed : List SwitchId) : Type 0 where
  pub now : (t : SwitchId) → row_in after t ≡ (if is_in asked t then fresh t else row_in rows t)
  pub same : (t : SwitchId) → is_in changed t ≡ false → row_in after t ≡ row_in rows t

-- the rows of a switch in two tables of each kind are the same
pub record HasSameRows (old new : Reach) (t : SwitchId) : Type 0 where
  pub down : row_in new.down.entries t ≡ row_in old.down.entries t
  pub core : row_in new.core.entries t ≡ row_in old.core.entries t
  pub up : row_in new.up.entries t ≡ row_in old.up.entries t

-- the rows by what is told now, and all but those that turned have the rows that they had
pub record IsReachRenewed (told : Told) (edges : List Edge) (old new : Reach) (turned : List SwitchId) : Type 0 where
  pub reach : IsReach told edges new
  pub same : (t : SwitchId) → is_in turned t ≡ false → HasSameRows old new t
