-- What the causes for which a switch drops a data frame are read of, whatever the rows of its rule.
use Rattle.std.specs.Prelude.{ℕ, ◌==◌, ◌&&◌, ◌||◌, not, Bool, if◌then◌else◌, List, [], ◌∷◌, Option, Some, None, is_none, unwrap_or}
use Rattle.pl_frame.specs.Ethernet.{source_of}
use Rattle.pl_pmac.specs.declared.pmac.Pmac.{Pmac}
use Rattle.pl_pmac.specs.Pmac.{mac_of, pmac_of}
use Rattle.pl_node.specs.declared.acts.Act.{Act}
use Rattle.pl_node.specs.declared.acts.Act.TheVariants.{Drop, Make}
use Rattle.pl_switch_rule.specs.declared.came.Came.{Came}
use Rattle.pl_switch_rule.specs.declared.came.Came.TheVariants.{FromHost}
use Rattle.pl_journal.specs.declared.cause.Cause.{Cause}
use Rattle.pl_node.specs.declared.trap.Trap.{Trap}
use Rattle.pl_switch_rule.specs.Delivering.{addresses, last_trap}
use Rattle.pl_switch_rule.specs.Forwarding.{came_by}
use Rattle.pl_switch_rule.specs.Granting.{learns_source}
use Rattle.pl_switch_rule.specs.GroupForwarding.{destination_group, group_ports, is_on_its_way_down, way_of}
use Rattle.pl_node.specs.SwitchFacts.{part_of}
use Rattle.pl_switch_rule.specs.Intake.{mac_of_pmac, source_pmac}
use Rattle.pl_switch_rule.specs.Levels.{finds_host}
use Rattle.pl_layouts.specs.Memberships.{flood}
use Rattle.pl_node.specs.PortRecords.{is_open_to_hosts, port_of}
use Rattle.pl_layouts.specs.Placement.{is_known}
use Rattle.pl_steps.specs.Steps.{◌▹◌}
use Rattle.pl_node.specs.SwitchViews.{SwitchView}

-- the cause of the frame that came, if it is dropped; what is made afterwards has causes of its own
abbrev pub first_drop : List Act → Option Cause
first_drop [] = None
first_drop (Drop cause ∷ acts) = Some cause
first_drop (Make frame ∷ acts) = None
first_drop (act ∷ acts) = first_drop acts

abbrev pub is_of_host : SwitchView → ℕ → Bool
is_of_host v port = is_open_to_hosts (port_of v port)

-- an aggregation or a core switch
abbrev pub has_no_hosts : SwitchView → Bool
has_no_hosts v = is_known v.place.level 1 || is_known v.place.level 2

-- what an edge switch knows once it has learnt the source of a host's frame
abbrev pub seen : SwitchView → ℕ → List ℕ → SwitchView
seen v port frame =
    if is_of_host v port && not (has_no_hosts v) then (finds_host v port ▹ (λ w. learns_source w port frame)).view else v

abbrev pub came_in : SwitchView → ℕ → Option Came
came_in v port = if is_of_host v port then Some FromHost else came_by v port

-- the address that stands in the frame once all traps were followed
abbrev pub address_after : SwitchView → Pmac → Option Trap → Pmac
address_after v address None = address
address_after v address (Some trap) = pmac_of (mac_of (last_trap (addresses v) v trap).new)

-- the address under which the frame goes on
abbrev pub known_source : SwitchView → ℕ → List ℕ → Pmac
known_source v port frame =
    if is_of_host v port then pmac_of (unwrap_or (mac_of_pmac (source_pmac v port frame)) (source_of frame))
    else pmac_of (source_of frame)

-- the ports by which a frame to a group would leave
abbrev pub places : SwitchView → ℕ → List ℕ → List ℕ
places v port frame = group_ports v (way_of v.place (came_in v port)) (destination_group frame) (known_source v port frame)

-- a frame of a routed group of which no part is known, or that is on its way down
abbrev pub is_for_members : SwitchView → ℕ → List ℕ → Bool
is_for_members v port frame =
    not (destination_group frame == flood) && (is_none (part_of v (destination_group frame)) || is_on_its_way_down v (came_in v port))
