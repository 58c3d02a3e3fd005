-- Where a switch passes a frame to a group on to: up to the core switch of the group's tree, and from there down (PortLand, section 3.4).
use Rattle.std.specs.Prelude.{ℕ, ◌==◌, ◌&&◌, ◌||◌, not, Bool, true, false, if◌then◌else◌, List, [], ◌∷◌, Option, Some, None, is_none, map}
use Rattle.std.specs.List.{list_any}
use Rattle.std.specs.Option.{unwrap_or}
use Rattle.pl_frame.specs.declared.address.SwitchId.{SwitchId}
use Rattle.pl_frame.specs.Ethernet.{destination_of, source_of}
use Rattle.pl_pmac.specs.declared.pmac.Pmac.{Pmac}
use Rattle.pl_pmac.specs.Pmac.{pmac_of}
use Rattle.pl_node.specs.declared.acts.Act.{Act}
use Rattle.pl_node.specs.declared.acts.Act.TheVariants.{Drop, Pass}
use Rattle.pl_switch_rule.specs.declared.came.Came.{Came}
use Rattle.pl_switch_rule.specs.declared.came.Came.TheVariants.{FromAbove, FromBelow, FromHost}
use Rattle.pl_journal.specs.declared.cause.Cause.{Cause}
use Rattle.pl_journal.specs.declared.cause.Cause.TheVariants.{NoMember, NoNextHop}
use Rattle.pl_node.specs.declared.messages.TreePart.{TreePart}
use Rattle.pl_layouts.specs.declared.place.Place.{Place}
use Rattle.pl_switch_rule.specs.declared.came.Way.{Way}
use Rattle.pl_switch_rule.specs.declared.came.Way.TheVariants.{Down, Nowhere, ToHosts, Up}
use Rattle.pl_switch_rule.specs.Granting.{is_local}
use Rattle.pl_layouts.specs.Memberships.{flood, group_of}
use Rattle.pl_node.specs.PortRecords.{id_at, is_usable, port_of, ports_where}
use Rattle.pl_layouts.specs.Placement.{is_known}
use Rattle.pl_steps.specs.Steps.{SwitchStep, does}
use Rattle.pl_node.specs.SwitchViews.{SwitchView}
use Rattle.pl_node.specs.SwitchFacts.{part_of}

abbrev pub is_up : Option TreePart → Option SwitchId → Bool
is_up None id = false
is_up (Some part) id = up_is part.up id
  where
    up_is : Option SwitchId → Option SwitchId → Bool
    up_is (Some up) (Some id) = up.0 == id.0
    up_is _ _ = false

abbrev pub is_down : Option TreePart → Option SwitchId → Bool
is_down (Some part) (Some id) = list_any (λ down. down.0 == id.0) part.down
is_down _ _ = false

abbrev pub at_most_one : List ℕ → List ℕ
at_most_one [] = []
at_most_one (port ∷ ports) = port ∷ []

-- upwards there is one way
abbrev pub group_ports_up : SwitchView → ℕ → List ℕ
group_ports_up v group = at_most_one (ports_where v (λ port. is_usable v port && is_up (part_of v group) (id_at v port)))

abbrev pub group_ports_down : SwitchView → ℕ → List ℕ
group_ports_down v group = ports_where v (λ port. is_usable v port && is_down (part_of v group) (id_at v port))

-- a flood reaches each host port, a routed group each port with a member
abbrev pub is_reached : SwitchView → ℕ → ℕ → Bool
is_reached v group port =
    if group == flood then (port_of v port).host else list_any (λ m. (m.group == group) && (m.port == port)) v.members

-- but no frame goes back to its source
abbrev pub is_source : SwitchView → Pmac → ℕ → Bool
is_source v source port = is_local v source && (source.port == port)

abbrev pub host_ports : SwitchView → ℕ → Pmac → List ℕ
host_ports v group source = ports_where v (λ port. is_reached v group port && not (is_source v source port))

-- A frame to a group is on its way down once it has come to a core switch, or comes from above.
abbrev pub is_on_its_way_down : SwitchView → Option Came → Bool
is_on_its_way_down v (Some FromAbove) = true
is_on_its_way_down v came = is_known v.place.level 2

-- Which way it goes: up to the core switch, from there down, and from an edge switch to the hosts.
abbrev pub way_from_above : Place → Way
way_from_above place = if is_known place.level 0 then ToHosts else if is_known place.level 1 then Down else Nowhere

abbrev pub way_from_below : Place → Way
way_from_below place = if is_known place.level 2 then Down else if is_known place.level 1 then Up else Nowhere

abbrev pub way_of : Place → Option Came → Way
way_of place None = if is_known place.level 2 then Down else Nowhere
way_of place (Some FromHost) = Up
way_of place (Some FromBelow) = way_from_below place
way_of place (Some FromAbove) = way_from_above place

-- The ports by which it leaves: upwards one, and downwards each that leads on.
abbrev pub group_ports : SwitchView → Way → ℕ → Pmac → List ℕ
group_ports v Up group source = group_ports_up v group
group_ports v Down group source = group_ports_down v group
group_ports v ToHosts group source = host_ports v group source
group_ports v Nowhere group source = []

abbrev pub no_way : SwitchView → Option Came → ℕ → Cause
no_way v came group =
    if not (group == flood) && (is_none (part_of v group) || is_on_its_way_down v came) then NoMember else NoNextHop

abbrev pub passes_or_drops : List ℕ → List ℕ → Cause → List Act
passes_or_drops [] frame cause = Drop cause ∷ []
passes_or_drops (port ∷ ports) frame cause = map (λ p. Pass p frame) (port ∷ ports)

-- the group that a frame goes to
abbrev pub destination_group : List ℕ → ℕ
destination_group frame = unwrap_or (group_of (destination_of frame)) flood

-- A frame to a group leaves by each of these ports; behind the first they are copies.
abbrev pub forwards_group : SwitchView → Option Came → List ℕ → SwitchStep
forwards_group v came frame = let group = destination_group frame in
    does v (passes_or_drops (group_ports v (way_of v.place came) group (pmac_of (source_of frame))) frame (no_way v came group))
