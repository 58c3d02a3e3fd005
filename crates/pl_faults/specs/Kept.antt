-- The lists that are kept, and those that were handed out.
use Rattle.std.specs.Prelude.{◌≡◌, ◌||◌, Bool, true, false, not, List, [], if◌then◌else◌, Option, Some, None, is_some, unwrap_or}
use Rattle.std.specs.List.{filter}
use Rattle.std.specs.BTreeMap.{is_at}
use Rattle.std.specs.BTreeSet.{insert_key}
use Rattle.pl_frame.specs.declared.address.SwitchId.{SwitchId}
use Rattle.pl_node.specs.ManagerViews.{Told, alive_neighbours, edge_at, id_cmp, neighbours, place_of, placed_edges, switches, value_at}
use Rattle.pl_node.specs.AvoidLists.{avoid_list}
use Rattle.pl_manager_rule.specs.ManagerRule.{same_avoid_list}
use Rattle.pl_reports.specs.Kept.{has_told, nothing_told}
use Rattle.pl_faults.specs.declared.leading.Leading.{Leading}
use Rattle.pl_faults.specs.declared.tables.Tables.{Tables}
use Rattle.pl_faults.specs.Listed.{is_in}
use Rattle.pl_faults.specs.Making.{Avoided}
use Rattle.pl_faults.specs.Missed.{IsLeading}

-- lists of switches, by rising id
abbrev pub ListsBySwitch : Type 0
ListsBySwitch = List (SwitchId × List Avoided)

-- what was told, and the lists that were made anew since they were handed out, each as it was then
pub record MatrixView : Type 0 where
  pub told : Told
  pub before : ListsBySwitch

-- nothing was told or handed out
abbrev pub empty_matrix : MatrixView
empty_matrix = record { told = nothing_told; before = [] }

-- the list of a switch that was last handed out
abbrev pub handed : MatrixView → SwitchId → List Avoided
handed view s = unwrap_or (value_at id_cmp view.before s) (avoid_list view.told s)

-- the list of a switch that told something
abbrev pub list_of : Told → SwitchId → Option (List Avoided)
list_of told s = if has_told told s then Some (avoid_list told s) else None

-- a switch whose list is another than was handed out
abbrev pub is_changed : MatrixView → SwitchId → Bool
is_changed view s = not (same_avoid_list (handed view s) (avoid_list view.told s))

-- all of them, by rising id
abbrev pub changed_lists : MatrixView → List SwitchId
changed_lists view = filter (is_changed view) (switches view.told)

-- the list that was handed out, by two tables
abbrev pub handed_in : ListsBySwitch → ListsBySwitch → SwitchId → List Avoided
handed_in lists before s = unwrap_or (value_at id_cmp before s) (unwrap_or (value_at id_cmp lists s) [])

-- one more switch whose list may be another than was noted
abbrev pub with_differing : ListsBySwitch → List SwitchId → SwitchId × List Avoided → List SwitchId
with_differing lists changed noted =
    if same_avoid_list noted.1 (unwrap_or (value_at id_cmp lists noted.0) []) then changed else insert_key id_cmp changed noted.0

-- what is noted of a switch, once its list was replaced or another's
abbrev pub with_note : Option (List Avoided) → Bool → List Avoided → Option (List Avoided)
with_note (Some noted) own old = Some noted
with_note None own old = if own then Some old else None

-- each list is that of what was told, and was made anew only for a switch that told something
pub record AreListsOf (told : Told) (lists before : ListsBySwitch) : Type 0 where
  pub current : (s : SwitchId) → value_at id_cmp lists s ≡ list_of told s
  pub heard : (s : SwitchId) → is_some (value_at id_cmp before s) ≡ true → has_told told s ≡ true

-- the list of one switch is made anew; the one before is noted, unless one was noted since it was handed out
pub record IsRenewed (s : SwitchId) (list : List Avoided) (lists before lists_after before_after : ListsBySwitch) : Type 0 where
  pub now : (t : SwitchId) → value_at id_cmp lists_after t ≡ (if is_at (id_cmp s) t then Some list else value_at id_cmp lists t)
  pub noted : (t : SwitchId) → value_at id_cmp before_after t ≡ with_note (value_at id_cmp before t) (is_at (id_cmp s) t) (unwrap_or (value_at id_cmp lists s) [])

-- the lists of some switches are made anew, and for each it is still known what was handed out
pub record AreListsRenewed (told : Told) (some : SwitchId → Bool) (lists before lists_after before_after : ListsBySwitch) : Type 0 where
  pub now : (t : SwitchId) → value_at id_cmp lists_after t ≡ (if some t then Some (avoid_list told t) else value_at id_cmp lists t)
  pub handed_stays : (t : SwitchId) → handed_in lists_after before_after t ≡ handed_in lists before t
  pub noted : (t : SwitchId) → is_some (value_at id_cmp before_after t) ≡ true → (is_some (value_at id_cmp before t) || some t) ≡ true

-- what a word of one switch leaves
pub record IsWordOf (s : SwitchId) (told after : Told) : Type 0 where
  pub place : (t : SwitchId) → is_at (id_cmp s) t ≡ false → place_of after t ≡ place_of told t
  pub near : (t : SwitchId) → is_at (id_cmp s) t ≡ false → neighbours after t ≡ neighbours told t
  pub others : (t : SwitchId) → is_at (id_cmp s) t ≡ false → has_told after t ≡ has_told told t
  pub itself : has_told after s ≡ true

-- what a word of a switch on its place leaves; the placed edge switches, where it was none of them and is none
pub record IsPlaceWord (s : SwitchId) (told after : Told) : Type 0 where
  pub word : IsWordOf s told after
  pub near : (t : SwitchId) → neighbours after t ≡ neighbours told t
  pub beside : (t : SwitchId) → alive_neighbours after t ≡ alive_neighbours told t
  pub edges : is_some (edge_at s (place_of told s)) ≡ false → is_some (edge_at s (place_of after s)) ≡ false → placed_edges after ≡ placed_edges told

-- what a word of a switch on its link to u leaves
pub record IsLinkWord (s u : SwitchId) (told after : Told) : Type 0 where
  pub word : IsWordOf s told after
  pub place : (t : SwitchId) → place_of after t ≡ place_of told t
  pub edges : placed_edges after ≡ placed_edges told
  pub near : neighbours after s ≡ insert_key id_cmp (neighbours told s) u
  pub beside : (t : SwitchId) → is_at (id_cmp s) t ≡ false → is_at (id_cmp u) t ≡ false → alive_neighbours after t ≡ alive_neighbours told t

-- outside some switches a word leaves where each is, its neighbours of one kind, and where these are
pub record IsWordWithin (some : List SwitchId) (near_in : Told → SwitchId → List SwitchId) (told after : Told) : Type 0 where
  pub place : (t : SwitchId) → is_in some t ≡ false → place_of after t ≡ place_of told t
  pub near : (t : SwitchId) → is_in some t ≡ false → near_in after t ≡ near_in told t
  pub beside : (t x : SwitchId) → is_in some t ≡ false → is_in (near_in after t) x ≡ true → place_of after x ≡ place_of told x

-- what is missed, the lists, and the lists that were handed out, by what was told
pub record AreListsAsTold (told : Told) (known : Leading) (lists before : ListsBySwitch) : Type 0 where
  pub leading : IsLeading told known
  pub listed : AreListsOf told lists before

-- the same of tables, whatever their reports are
abbrev pub AreTablesOf : Told → Tables → Type 0
AreTablesOf told tables = AreListsAsTold told tables.leading tables.lists.entries tables.before.entries

-- the list of a switch that was last handed out, by tables
abbrev pub handed_by : Tables → SwitchId → List Avoided
handed_by tables = handed_in tables.lists.entries tables.before.entries

-- the list of one switch is made anew, and no more
pub record IsListRenewed (s : SwitchId) (list : List Avoided) (old new : Tables) : Type 0 where
  pub told : new.reports ≡ old.reports
  pub leading : new.leading ≡ old.leading
  pub renewed : IsRenewed s list old.lists.entries old.before.entries new.lists.entries new.before.entries

-- the lists of some switches are made anew, and no more
pub record AreTablesRenewed (some : SwitchId → Bool) (old new : Tables) : Type 0 where
  pub told : new.reports ≡ old.reports
  pub leading : new.leading ≡ old.leading
  pub renewed : AreListsRenewed old.reports some old.lists.entries old.before.entries new.lists.entries new.before.entries

-- all is by what was told now, where what was handed out stays
pub record IsKeptUp (old new : Tables) : Type 0 where
  pub told : new.reports ≡ old.reports
  pub kept : AreTablesOf new.reports new
  pub handed : (s : SwitchId) → handed_by new s ≡ handed_by old s
