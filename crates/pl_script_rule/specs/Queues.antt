-- The queue that a script names by its two ends.
use Rattle.std.specs.Prelude.{ℕ, ◌==◌, if◌then◌else◌, Option, None, Some, slice_get, option_map}
use Rattle.std.specs.Option.{option_and_then}
use Rattle.pl_wiring.specs.declared.host.HostNo.{HostNo}
use Rattle.pl_wiring.specs.declared.label.SwitchNo.{SwitchNo}
use Rattle.pl_wiring.specs.declared.link.Link.{Link}
use Rattle.pl_wiring.specs.Plan.{Plan}
use Rattle.pl_script.specs.declared.command.End.{End}
use Rattle.pl_script.specs.declared.command.End.TheVariants.{Host, Manager, Switch}
use Rattle.pl_world.specs.declared.event.Event.{Event}
use Rattle.pl_world.specs.declared.event.Event.TheVariants as event
use Rattle.pl_world.specs.declared.event.QueueName.{QueueName}
use Rattle.pl_world.specs.declared.event.QueueName.TheVariants.{FromHost, FromManager, Port, ToManager}
use Rattle.pl_world.specs.declared.attachment.AttachmentPoint.{AttachmentPoint}
use Rattle.pl_world.specs.Changes.{switch_no}
use Rattle.pl_world.specs.LinksAndMoves.{link_between}
use Rattle.pl_world.specs.Worlds.{WorldView}

-- the port at which a link leaves this one of its two switches
abbrev pub port_of : ℕ → Link → ℕ
port_of a link = if link.lower.0 == a then link.lower_port else link.upper_port

-- the port of a switch whose link leads to another
abbrev pub port_towards : Plan → ℕ → ℕ → Option ℕ
port_towards plan a b = option_map (port_of a) (link_between plan a b)

abbrev pub if_at : SwitchNo → QueueName → AttachmentPoint → Option QueueName
if_at s name attachment = if attachment.edge.0 == s.0 then Some name else None

-- a host is joined to the switch where it stands now
abbrev pub from_host : WorldView → HostNo → SwitchNo → Option QueueName
from_host w h s = option_and_then (if_at s (FromHost h)) (slice_get w.attachments h.0)

abbrev pub to_host : WorldView → SwitchNo → HostNo → Option QueueName
to_host w s h = option_and_then (λ attachment. if_at s (Port s attachment.port) attachment) (slice_get w.attachments h.0)

abbrev pub between_switches : Plan → SwitchNo → SwitchNo → Option QueueName
between_switches plan a b = option_map (Port a) (port_towards plan a.0 b.0)

-- the queue from one end to another, where one joins them
abbrev pub queue_between : WorldView → End → End → Option QueueName
queue_between w (Switch a) (Switch b) = between_switches w.plan a b
queue_between w (Host h) (Switch s) = from_host w h s
queue_between w (Switch s) (Host h) = to_host w s h
queue_between w (Switch s) Manager = Some (ToManager s)
queue_between w Manager (Switch s) = Some (FromManager s)
queue_between w _ _ = None

-- The head of a queue is delivered. Where no queue joins the two ends the event names a port that no switch has.
abbrev pub delivery : Option QueueName → Event
delivery None = event.Deliver (Port (switch_no 0) 255)
delivery (Some name) = event.Deliver name

abbrev pub loss : SwitchNo → Option ℕ → Event
loss s None = event.Lose (switch_no 0) 255
loss s (Some port) = event.Lose s port
