-- What the neighbour at each port is to a switch, as its tables ask.
use Rattle.std.specs.Prelude.{◌≡◌, ℕ, ◌/◌, ◌%◌, ◌<◌, ◌≤◌, ◌==◌, ◌&&◌, Bool, true, false, if◌then◌else◌, List, length, Option, Some, None, is_some, slice_index_or, slice_set}
use Rattle.std.specs.List.{list_any}
use Rattle.pl_frame.specs.declared.address.SwitchId.{SwitchId}
use Rattle.pl_lists.specs.Ports.{ports_of}
use Rattle.pl_layouts.specs.declared.place.Place.{Place}
use Rattle.pl_layouts.specs.Placement.{is_known}
use Rattle.pl_node.specs.AvoidLists.{is_level_above}
use Rattle.pl_node.specs.declared.neighbour.Neighbour.{Neighbour}
use Rattle.pl_node.specs.declared.neighbour.PortRecord.{PortRecord}
use Rattle.pl_node.specs.PortRecords.{is_usable_record, port_of}
use Rattle.pl_node.specs.SwitchViews.{SwitchView}
use Rattle.pl_tables.specs.declared.lead.Lead.{Lead}
use Rattle.pl_tables.specs.declared.port_rows.PortRow.{PortRow}
use Rattle.pl_tables.specs.declared.prefix_tables.PrefixTables.{PrefixTables}
use Rattle.pl_tables.specs.Rows.{ports_at}

abbrev pub no_lead : Lead
no_lead = record { up = None; down = None }

-- the neighbour, where it is one level above
abbrev pub above : Option ℕ → Neighbour → Option SwitchId
above level n = if is_level_above level n.place.level then Some n.id else None

-- the key of the neighbour's row, where it is one level below
abbrev pub key_below : Option ℕ → Place → Option ℕ
key_below level p =
    if is_known level 1 && is_known p.level 0 then p.position
    else if is_known level 2 && is_known p.level 1 then p.pod
    else None

abbrev pub lead_to : Option ℕ → Option Neighbour → Lead
lead_to level None = no_lead
lead_to level (Some n) = record { up = above level n; down = key_below level n.place }

-- by the level and the id of the switch, and the port's record
abbrev pub lead_of : Option ℕ → SwitchId → PortRecord → Lead
lead_of level me r = if is_usable_record me r then lead_to level r.heard else no_lead

abbrev pub lead_at : List Lead → ℕ → Lead
lead_at leads port = slice_index_or leads port no_lead

-- those of the ports of a switch, and none past them
pub record AreLeads (v : SwitchView) (leads : List Lead) : Type 0 where
  pub there : (port : ℕ) → port < v.k → lead_at leads port ≡ lead_of v.place.level v.id (port_of v port)
  pub past : (port : ℕ) → v.k ≤ port → lead_at leads port ≡ no_lead

-- an entry of an avoid list for this neighbour and the address of this key
abbrev pub is_entry_of : SwitchId → ℕ → SwitchId × ℕ × ℕ → Bool
is_entry_of u key a = (a.0.0 == u.0) && ((a.1 == key / 256) && (a.2 == key % 256))

abbrev pub avoids_by : List (SwitchId × ℕ × ℕ) → Option SwitchId → ℕ → Bool
avoids_by avoid None key = false
avoids_by avoid (Some u) key = list_any (is_entry_of u key) avoid

-- one for the neighbour up, if there is one
abbrev pub is_entry_for : Option SwitchId → ℕ → SwitchId × ℕ × ℕ → Bool
is_entry_for None key a = false
is_entry_for (Some u) key a = is_entry_of u key a

abbrev pub has : List ℕ → ℕ → Bool
has ports port = list_any (λ p. p == port) ports

-- the rows of the ports up, by an avoid list
abbrev pub AreAvoided : List PortRow → List Lead → List (SwitchId × ℕ × ℕ) → Type 0
AreAvoided rows leads avoid = (key port : ℕ) → port < 32 → has (ports_at rows key) port ≡ avoids_by avoid (lead_at leads port).up key

-- what the tables have of each port follows from its lead and the avoid list
pub record AreOfLeads (leads : List Lead) (avoid : List (SwitchId × ℕ × ℕ)) (tables : PrefixTables) : Type 0 where
  pub up : (port : ℕ) → port < 32 → has (ports_of tables.up) port ≡ is_some (lead_at leads port).up
  pub avoided : AreAvoided tables.avoided leads avoid
  pub down : (key port : ℕ) → port < 32 → has (ports_at tables.down key) port ≡ is_known (lead_at leads port).down key

-- a port is set or cleared in the rows of those keys that pass, and nothing else changes
abbrev pub SetsWhere : List PortRow → List PortRow → ℕ → Bool → (ℕ → Bool) → Type 0
SetsWhere old new port is_in test =
    (key q : ℕ) → has (ports_at new key) q ≡ (if test key && (port == q) then is_in else has (ports_at old key) q)

-- and so at each port, for the keys that pass there
abbrev pub SetsEach : List PortRow → List PortRow → Bool → (ℕ → ℕ → Bool) → Type 0
SetsEach old new is_in test = (key q : ℕ) → has (ports_at new key) q ≡ (if test key q then is_in else has (ports_at old key) q)

-- a port goes out of the rows of the keys that passed, and into those of the keys that pass
abbrev pub ChangesRows : List PortRow → List PortRow → ℕ → (ℕ → Bool) → (ℕ → Bool) → Type 0
ChangesRows old new port was now =
    (key q : ℕ) → has (ports_at new key) q ≡ (if now key && (port == q) then true else if was key && (port == q) then false else has (ports_at old key) q)

-- and so for all tables, by what its lead was and is
pub record MovesLead (old new : PrefixTables) (avoid : List (SwitchId × ℕ × ℕ)) (port : ℕ) (was now : Lead) : Type 0 where
  pub up : (q : ℕ) → has (ports_of new.up) q ≡ (if port == q then is_some now.up else has (ports_of old.up) q)
  pub avoided : ChangesRows old.avoided new.avoided port (avoids_by avoid was.up) (avoids_by avoid now.up)
  pub down : ChangesRows old.down new.down port (is_known was.down) (is_known now.down)

-- tables that were of some leads are of those with this one changed
abbrev pub Moves : PrefixTables → PrefixTables → List (SwitchId × ℕ × ℕ) → ℕ → Lead → Lead → Type 0
Moves old new avoid port was now =
    (leads : List Lead) → port < length leads → lead_at leads port ≡ was → AreOfLeads leads avoid old → AreOfLeads (slice_set leads port now) avoid new

-- what a switch keeps besides its records follows from these
pub record TablesFollow (v : SwitchView) (leads : List Lead) (tables : PrefixTables) : Type 0 where
  pub few : v.k ≤ 24
  pub many : length leads ≡ 24
  pub shown : AreLeads v leads
  pub tabled : AreOfLeads leads v.avoid tables
