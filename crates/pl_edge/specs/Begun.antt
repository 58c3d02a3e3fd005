-- A step that an edge switch begins on a frame of a host, and what is left to do of it.
use Rattle.std.specs.Prelude.{◌≡◌, ℕ, ◌==◌, ◌&&◌, not, if◌then◌else◌, List, [], ◌∷◌, Option, Some}
use Rattle.pl_frame.specs.Ethernet.{destination_of}
use Rattle.pl_arp.specs.declared.packet.Arp.{Arp}
use Rattle.pl_pmac.specs.declared.pmac.Pmac.{Pmac}
use Rattle.pl_node.specs.declared.acts.Act.{Act}
use Rattle.pl_node.specs.declared.acts.Act.TheVariants.{Drop}
use Rattle.pl_node.specs.SwitchViews.{SwitchView}
use Rattle.pl_layouts.specs.Memberships.{group_of}
use Rattle.pl_steps.specs.Steps.{SwitchStep, does}
use Rattle.pl_switch_rule.specs.declared.came.Came.TheVariants.{FromHost}
use Rattle.pl_switch_rule.specs.Delivering.{arrives_home, destination}
use Rattle.pl_switch_rule.specs.Forwarding.{Choice, forwards}
use Rattle.pl_switch_rule.specs.GroupForwarding.{forwards_group}
use Rattle.pl_switch_rule.specs.Intake.{query, takes}
use Rattle.pl_edge.specs.declared.edge_act.EdgeAct.{EdgeAct}
use Rattle.pl_edge.specs.declared.edge_act.EdgeAct.TheVariants.{Upward, ToHost, Group, Taken, Drop as Dropped}

-- what the switch does then with the frame
abbrev pub left_to_do : Choice → EdgeAct → List ℕ → SwitchView → SwitchStep
left_to_do choose (Upward address) frame v = forwards choose v (Some FromHost) frame
left_to_do choose (ToHost address) frame v = arrives_home choose v frame
left_to_do choose (Group group) frame v = forwards_group v (Some FromHost) frame
left_to_do choose Taken frame v = takes v
left_to_do choose (Dropped cause) frame v = does v (Drop cause ∷ [])

-- an address, or a group, is the one that the frame goes to
abbrev pub IsMeant : EdgeAct → List ℕ → Type 0
IsMeant (Upward address) frame = address ≡ destination frame
IsMeant (ToHost address) frame = address ≡ destination frame
IsMeant (Group group) frame = Some group ≡ group_of (destination_of frame)
IsMeant Taken frame = Unit {0}
IsMeant (Dropped cause) frame = Unit {0}

-- the manager is asked, where a packet of a host with this address asks for another one's
abbrev pub question : Option Pmac → Arp → List Act
question asker arp = if (arp.op == 1) && not (arp.spa.0 == arp.tpa.0) then query asker arp else []
