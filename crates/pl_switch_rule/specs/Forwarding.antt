-- Where a switch passes a unicast frame on to: up, until a switch is reached from which a way leads down to the addressed edge switch
-- (PortLand, sections 3.5 and 3.6).
use Rattle.std.specs.Prelude.{ℕ, ◌&&◌, not, nat_lt, Bool, false, if◌then◌else◌, List, [], ◌∷◌, Option, Some, None}
use Rattle.pl_frame.specs.Ethernet.{destination_of}
use Rattle.pl_pmac.specs.declared.pmac.Pmac.{Pmac}
use Rattle.pl_pmac.specs.Pmac.{pmac_of}
use Rattle.pl_node.specs.declared.acts.Act.TheVariants.{Drop, Pass}
use Rattle.pl_switch_rule.specs.declared.came.Came.{Came}
use Rattle.pl_switch_rule.specs.declared.came.Came.TheVariants.{FromAbove, FromBelow, FromHost}
use Rattle.pl_journal.specs.declared.cause.Cause.TheVariants.{NoNextHop}
use Rattle.pl_switch_rule.specs.Granting.{is_local}
use Rattle.pl_node.specs.PortRecords.{id_at, is_usable_to, place_at, ports_where}
use Rattle.pl_layouts.specs.Placement.{is_known}
use Rattle.pl_steps.specs.Steps.{SwitchStep, does}
use Rattle.pl_node.specs.SwitchViews.{SwitchView}
use Rattle.pl_node.specs.SwitchFacts.{is_avoided}

-- How a port is chosen among candidates for a frame.
abbrev pub Choice : Type 0
Choice = List ℕ → List ℕ → Option ℕ

-- a frame from a neighbour of a lower level comes from below, from one of a higher level from above
abbrev pub came_between : Option ℕ → Option ℕ → Option Came
came_between (Some own) (Some other) =
    if nat_lt other own then Some FromBelow else if nat_lt own other then Some FromAbove else None
came_between _ _ = None

abbrev pub came_by : SwitchView → ℕ → Option Came
came_by v port = came_between v.place.level (place_at v port).level

-- a usable port to the level above, through which the addressed edge switch can be reached
abbrev pub leads_up : SwitchView → ℕ → Pmac → ℕ → Bool
leads_up v level to port = is_usable_to v level port && not (is_avoided v (id_at v port) to.pod to.position)

-- a usable port to the edge switch of this position
abbrev pub leads_to_position : SwitchView → Pmac → ℕ → Bool
leads_to_position v to port = is_usable_to v 0 port && is_known (place_at v port).position to.position

-- a usable port to an aggregation switch of this pod
abbrev pub leads_to_pod : SwitchView → Pmac → ℕ → Bool
leads_to_pod v to port = is_usable_to v 1 port && is_known (place_at v port).pod to.pod

-- a frame of a host of this edge switch, for another one, goes up
abbrev pub leads_from_edge : SwitchView → Pmac → Came → ℕ → Bool
leads_from_edge v to FromHost port = not (is_local v to) && leads_up v 1 to port
leads_from_edge v to _ port = false

-- a frame for the pod goes down, and one for another pod goes up, unless it came down
abbrev pub leads_from_aggregation : SwitchView → Pmac → Came → ℕ → Bool
leads_from_aggregation v to FromHost port = false
leads_from_aggregation v to FromBelow port =
    if is_known v.place.pod to.pod then leads_to_position v to port else leads_up v 2 to port
leads_from_aggregation v to FromAbove port = is_known v.place.pod to.pod && leads_to_position v to port

abbrev pub leads_from_core : SwitchView → Pmac → Came → ℕ → Bool
leads_from_core v to FromBelow port = leads_to_pod v to port
leads_from_core v to _ port = false

-- A port by which a frame for this pod and position may leave. What comes down never goes up again.
abbrev pub is_candidate : SwitchView → Pmac → Came → ℕ → Bool
is_candidate v to came port =
    if is_known v.place.level 0 then leads_from_edge v to came port
    else if is_known v.place.level 1 then leads_from_aggregation v to came port
    else if is_known v.place.level 2 then leads_from_core v to came port
    else false

-- these ports, rising
unfoldable pub candidates : SwitchView → Pmac → Came → List ℕ
candidates v to came = ports_where v (is_candidate v to came)

-- a frame from a neighbour of the switch's own level goes nowhere
abbrev pub candidates_by : SwitchView → Pmac → Option Came → List ℕ
candidates_by v to None = []
candidates_by v to (Some came) = candidates v to came

abbrev pub leaves_by : SwitchView → List ℕ → Option ℕ → SwitchStep
leaves_by v frame None = does v (Drop NoNextHop ∷ [])
leaves_by v frame (Some port) = does v (Pass port frame ∷ [])

-- A unicast frame for another edge switch leaves by one of the candidates.
abbrev pub forwards : Choice → SwitchView → Option Came → List ℕ → SwitchStep
forwards choose v came frame = leaves_by v frame (choose (candidates_by v (pmac_of (destination_of frame)) came) frame)
