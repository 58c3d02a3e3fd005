-- Where a switch stands, and what it knows of its ports.
use Rattle.std.specs.Prelude.{ℕ, ◌==◌, ◌&&◌, ◌||◌, nat_lt, Bool, false, List, Option, Some, None, is_none, slice_index_or, slice_set, ◌+◌, if◌then◌else◌, is_some}
use Rattle.std.specs.List.{filter, range_with_len}
use Rattle.pl_frame.specs.declared.address.SwitchId.{SwitchId}
use Rattle.pl_node.specs.declared.neighbour.Neighbour.{Neighbour}
use Rattle.pl_node.specs.declared.neighbour.PortRecord.{PortRecord}
use Rattle.pl_layouts.specs.declared.place.Place.{Place}
use Rattle.pl_node.specs.SwitchViews.{SwitchView}
use Rattle.pl_layouts.specs.Placement.{is_known, nowhere}

abbrev pub is_id : Option SwitchId → SwitchId → Bool
is_id None id = false
is_id (Some known) id = known.0 == id.0

-- the ports of a switch of k ports, rising
abbrev pub ports_of_switch : ℕ → List ℕ
ports_of_switch k = range_with_len 0 k

abbrev pub new_port : PortRecord
new_port = record { host = false; heard = None; silent = 0 }

abbrev pub port_of : SwitchView → ℕ → PortRecord
port_of v port = slice_index_or v.ports port new_port

abbrev pub with_port : SwitchView → ℕ → PortRecord → SwitchView
with_port v port r = record v { ports = slice_set v.ports port r }

-- the place of the neighbour, as far as it was told
abbrev pub heard_place : Option Neighbour → Place
heard_place None = nowhere
heard_place (Some neighbour) = neighbour.place

abbrev pub place_at : SwitchView → ℕ → Place
place_at v port = heard_place (port_of v port).heard

abbrev pub heard_id : Option Neighbour → Option SwitchId
heard_id None = None
heard_id (Some neighbour) = Some neighbour.id

abbrev pub id_at : SwitchView → ℕ → Option SwitchId
id_at v port = heard_id (port_of v port).heard

abbrev pub heard_echo : Option Neighbour → Option SwitchId
heard_echo None = None
heard_echo (Some neighbour) = neighbour.echo

-- A port is usable where the last message that came there, at most two ticks ago, says that this switch was heard.
abbrev pub is_usable_record : SwitchId → PortRecord → Bool
is_usable_record me r = nat_lt r.silent 3 && is_id (heard_echo r.heard) me

abbrev pub is_usable : SwitchView → ℕ → Bool
is_usable v port = is_usable_record v.id (port_of v port)

-- a usable port to a neighbour of this level
abbrev pub is_usable_to : SwitchView → ℕ → ℕ → Bool
is_usable_to v level port = is_usable v port && is_known (place_at v port).level level

-- the ports of a switch that pass a test, rising
abbrev pub ports_where : SwitchView → (ℕ → Bool) → List ℕ
ports_where v test = filter test (ports_of_switch v.k)

-- a host is there, or nothing was heard there yet
abbrev pub is_open_to_hosts : PortRecord → Bool
is_open_to_hosts r = r.host || is_none r.heard

-- a port at which something was heard has been silent for one tick more, at most three
abbrev pub aged : PortRecord → PortRecord
aged r = record r { silent = if is_some r.heard && nat_lt r.silent 3 then r.silent + 1 else r.silent }
