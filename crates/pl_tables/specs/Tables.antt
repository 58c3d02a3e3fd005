-- The prefix tables of a switch, by what it knows.
use Rattle.std.specs.Prelude.{◌≡◌, ℕ, ◌/◌, ◌%◌, ◌&&◌, Bool, false, if◌then◌else◌}
use Rattle.pl_lists.specs.Ports.{ports_of}
use Rattle.pl_layouts.specs.Placement.{is_known}
use Rattle.pl_node.specs.AvoidLists.{is_level_above}
use Rattle.pl_node.specs.PortRecords.{id_at, is_usable, is_usable_to, place_at, ports_where}
use Rattle.pl_node.specs.SwitchFacts.{is_avoided}
use Rattle.pl_node.specs.SwitchViews.{SwitchView}
use Rattle.pl_tables.specs.declared.prefix_tables.PrefixTables.{PrefixTables}
use Rattle.pl_tables.specs.Rows.{ports_at}

-- a usable port whose neighbour is one level above
abbrev pub is_up : SwitchView → ℕ → Bool
is_up v port = is_usable v port && is_level_above v.place.level (place_at v port).level

-- one whose neighbour is to be avoided for the address of this key: its pod, and the position in the last eight bits
abbrev pub is_up_avoided : SwitchView → ℕ → ℕ → Bool
is_up_avoided v key port = is_up v port && is_avoided v (id_at v port) (key / 256) (key % 256)

-- a usable port to the edge switch of this position, or at a core switch to an aggregation switch of this pod
abbrev pub is_down : SwitchView → ℕ → ℕ → Bool
is_down v key port =
    if is_known v.place.level 1 then is_usable_to v 0 port && is_known (place_at v port).position key
    else if is_known v.place.level 2 then is_usable_to v 1 port && is_known (place_at v port).pod key
    else false

-- The tables are those of a switch that knows this.
pub record AreTables (v : SwitchView) (tables : PrefixTables) : Type 0 where
  pub up : ports_of tables.up ≡ ports_where v (is_up v)
  pub avoided : (key : ℕ) → ports_at tables.avoided key ≡ ports_where v (is_up_avoided v key)
  pub down : (key : ℕ) → ports_at tables.down key ≡ ports_where v (is_down v key)
