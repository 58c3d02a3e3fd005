-- How a switch learns its level and its pod, from evidence alone.
use Rattle.std.specs.Prelude.{ℕ, ◌==◌, ◌&&◌, ◌||◌, not, Bool, true, false, if◌then◌else◌, Option, Some, None, is_some, is_none}
use Rattle.std.specs.List.{filter_map, list_any}
use Rattle.pl_frame.specs.declared.address.SwitchId.{SwitchId}
use Rattle.pl_layouts.specs.declared.control.Ldm.{Ldm}
use Rattle.pl_node.specs.declared.neighbour.PortRecord.{PortRecord}
use Rattle.pl_layouts.specs.declared.place.Place.{Place}
use Rattle.pl_journal.specs.Flights.{first_of}
use Rattle.pl_switch_rule.specs.Granting.{grants_remembered}
use Rattle.pl_switch_rule.specs.Positions.{notes_position}
use Rattle.pl_node.specs.PortRecords.{heard_place, port_of, ports_of_switch, with_port}
use Rattle.pl_layouts.specs.Placement.{is_known, is_placed}
use Rattle.pl_steps.specs.Steps.{SwitchStep, does, rests, ◌▹◌}
use Rattle.pl_node.specs.SwitchViews.{SwitchView}
use Rattle.pl_switch_rule.specs.Telling.{changes_told}

abbrev pub other_pod : Option ℕ → Option ℕ → Bool
other_pod (Some a) (Some b) = not (a == b)
other_pod _ _ = false

-- a neighbour of level 1 whose pod is known, and is not this one
abbrev pub is_of_other_pod : Option ℕ → PortRecord → Bool
is_of_other_pod pod r = is_known (heard_place r.heard).level 1 && other_pod pod (heard_place r.heard).pod

-- A switch without a level that hears an edge switch is an aggregation switch. One that has heard aggregation switches of two pods is a
-- core switch.
abbrev pub level_after : SwitchView → Place → Option ℕ
level_after v told =
    if is_some v.place.level then v.place.level
    else if is_known told.level 0 then Some 1
    else if is_known told.level 1 && list_any (is_of_other_pod told.pod) v.ports then Some 2
    else None

-- the two levels within a pod
abbrev pub share_a_pod : Option ℕ → Option ℕ → Bool
share_a_pod a b = (is_known a 0 && is_known b 1) || (is_known a 1 && is_known b 0)

-- An edge switch takes its pod from an aggregation switch, and an aggregation switch from an edge switch.
abbrev pub pod_after : Place → Place → Option ℕ
pod_after place told = if is_none place.pod && share_a_pod place.level told.level then told.pod else place.pod

abbrev pub with_level : SwitchView → Option ℕ → SwitchView
with_level v level = record v { place = record v.place { level = level } }

abbrev pub with_pod : SwitchView → Option ℕ → SwitchView
with_pod v pod = record v { place = record v.place { pod = pod } }

-- the port's record is replaced, then come the level and the pod
abbrev pub with_message : SwitchView → ℕ → SwitchId → Ldm → SwitchView
with_message v port id m = with_port v port (record {
  host = (port_of v port).host;
  heard = Some (record { id = id; place = m.place; echo = m.echo });
  silent = 0;
})

abbrev pub learns_level : SwitchView → Place → SwitchView
learns_level v told = with_level v (level_after v told)

abbrev pub learns_pod : SwitchView → Place → SwitchView
learns_pod v told = with_pod v (pod_after v.place told)

-- an aggregation switch notes the position that an edge switch says it has
abbrev pub notes_edge : SwitchView → SwitchId → Place → SwitchView
notes_edge v id told = if is_known v.place.level 1 && is_known told.level 0 then notes_position v id told.position else v

abbrev pub after_message : SwitchView → ℕ → SwitchId → Ldm → SwitchView
after_message v port id m = notes_edge (learns_pod (learns_level (with_message v port id m) m.place) m.place) id m.place

-- an edge switch that has become placed grants addresses to the sources that it remembers
abbrev pub has_become_placed : Place → Place → Bool
has_become_placed old new = is_known new.level 0 && is_placed new && not (is_placed old)

abbrev pub settles_in : Place → SwitchView → SwitchStep
settles_in old v = if has_become_placed old v.place then grants_remembered (ports_of_switch v.k) v else rests v

-- What changed is told; then an edge switch that has become placed grants addresses.
abbrev pub changes_to : SwitchView → SwitchView → SwitchStep
changes_to old new = does new (changes_told old new) ▹ settles_in old.place

-- A location discovery message comes at a port.
abbrev pub hears_message : SwitchView → ℕ → SwitchId → Ldm → SwitchStep
hears_message v port id m = changes_to v (after_message v port id m)

-- The pod that an edge switch takes when it becomes one: what the first of its ports to an aggregation switch says.
abbrev pub told_pod : PortRecord → Option ℕ
told_pod r = if is_known (heard_place r.heard).level 1 then (heard_place r.heard).pod else None

abbrev pub pod_told_before : SwitchView → Option ℕ
pod_told_before v = first_of (filter_map told_pod v.ports)

abbrev pub becomes_edge : SwitchView → SwitchView
becomes_edge v =
    with_pod (with_level v (Some 0)) (if is_none v.place.level && is_none v.place.pod then pod_told_before v else v.place.pod)

-- A frame of a host comes at a port where nothing was heard: a host is there, and this is an edge switch.
abbrev pub finds_host : SwitchView → ℕ → SwitchStep
finds_host v port = changes_to v (becomes_edge (with_port v port (record (port_of v port) { host = true })))
