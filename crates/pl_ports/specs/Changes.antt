-- What changes at the ports of a switch, and of its place.
use Rattle.std.specs.Prelude.{ℕ, ◌&&◌, ◌||◌, not, Bool, true, List, Option}
use Rattle.pl_journal.specs.Places.{are_alike}
use Rattle.pl_layouts.specs.Placement.{is_known}
use Rattle.pl_node.specs.PortRecords.{aged, is_open_to_hosts, is_usable, is_usable_record, port_of, ports_where, with_port}
use Rattle.pl_node.specs.SwitchViews.{SwitchView}

-- a port became usable, or ceased to be
abbrev pub usability_changes : SwitchView → SwitchView → ℕ → Bool
usability_changes old new port = not (are_alike (is_usable old port) (is_usable new port))

abbrev pub becomes_host_port : SwitchView → SwitchView → ℕ → Bool
becomes_host_port old new port = not (port_of old port).host && (port_of new port).host

-- the ports that ceased to be usable, rising
abbrev pub ceased : SwitchView → SwitchView → List ℕ
ceased old new = ports_where old (λ port. is_usable old port && not (is_usable new port))

-- a usable port that is not usable any more once its record has aged
abbrev pub ceases : SwitchView → ℕ → Bool
ceases v port = is_usable v port && not (is_usable_record v.id (aged (port_of v port)))

-- A frame of a host is one for an edge switch, and comes where no neighbour was heard.
abbrev pub takes_host : SwitchView → ℕ → Bool
takes_host v port = is_open_to_hosts (port_of v port) && not (is_known v.place.level 1 || is_known v.place.level 2)

abbrev pub with_host : SwitchView → ℕ → SwitchView
with_host v port = with_port v port (record (port_of v port) { host = true })

abbrev pub with_position : SwitchView → Option ℕ → SwitchView
with_position v position = record v { place = record v.place { position = position } }
