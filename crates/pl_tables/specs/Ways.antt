-- Which of the tables a switch asks for a unicast frame.
use Rattle.std.specs.Prelude.{◌≡◌, ℕ, ◌+◌, ◌*◌, ◌<◌, ◌&&◌, not, Bool, if◌then◌else◌, []}
use Rattle.pl_pmac.specs.declared.pmac.Pmac.{Pmac}
use Rattle.pl_lists.specs.declared.port_set.PortSet.{PortSet}
use Rattle.pl_lists.specs.Ports.{has_port, ports_of}
use Rattle.pl_layouts.specs.declared.place.Place.{Place}
use Rattle.pl_layouts.specs.Placement.{is_known}
use Rattle.pl_switch_rule.specs.declared.came.Came.{Came}
use Rattle.pl_switch_rule.specs.declared.came.Came.TheVariants.{FromAbove, FromBelow, FromHost}
use Rattle.pl_tables.specs.declared.asked.Asked.{Asked}
use Rattle.pl_tables.specs.declared.asked.Asked.TheVariants.{Down, Nothing, Up}
use Rattle.pl_tables.specs.declared.prefix_tables.PrefixTables.{PrefixTables}
use Rattle.pl_tables.specs.Rows.{ports_at}

-- the key of an address among the avoided ports
abbrev pub address_key : Pmac → ℕ
address_key to = to.pod * 256 + to.position

abbrev pub is_home : Place → Pmac → Bool
is_home place to = is_known place.level 0 && (is_known place.pod to.pod && is_known place.position to.position)

abbrev pub asked_at_edge : Place → Pmac → Came → Asked
asked_at_edge place to FromHost = if is_home place to then Nothing else Up
asked_at_edge place to _ = Nothing

abbrev pub asked_at_aggregation : Place → Pmac → Came → Asked
asked_at_aggregation place to FromHost = Nothing
asked_at_aggregation place to FromBelow = if is_known place.pod to.pod then Down to.position else Up
asked_at_aggregation place to FromAbove = if is_known place.pod to.pod then Down to.position else Nothing

abbrev pub asked_at_core : Pmac → Came → Asked
asked_at_core to FromBelow = Down to.pod
asked_at_core to _ = Nothing

abbrev pub asked_for : Place → Pmac → Came → Asked
asked_for place to came =
    if is_known place.level 0 then asked_at_edge place to came
    else if is_known place.level 1 then asked_at_aggregation place to came
    else if is_known place.level 2 then asked_at_core to came
    else Nothing

-- the ports of a set are what the tables say to a question
abbrev pub LeavesBy : PrefixTables → Asked → Pmac → PortSet → Type 0
LeavesBy tables Up to set =
    (to.position < 256) × ((avoided : PortSet) → ports_of avoided ≡ ports_at tables.avoided (address_key to) →
    (port : ℕ) → port < 32 → has_port set port ≡ (has_port tables.up port && not (has_port avoided port)))
LeavesBy tables (Down key) to set = ports_of set ≡ ports_at tables.down key
LeavesBy tables Nothing to set = ports_of set ≡ []
