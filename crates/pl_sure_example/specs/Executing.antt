-- The step of a world by the exact rules of switches, manager and hosts, as a function; none where there is no such step.
use Rattle.std.specs.Prelude.{ℕ, zero, suc, ◌+◌, false, List, [], ◌∷◌, Bool, true, Option, Some, None, is_none, slice_get, slice_set}
use Rattle.pl_frame.specs.declared.address.SwitchId.{SwitchId}
use Rattle.pl_wiring.specs.declared.link.Link.{Link}
use Rattle.pl_wiring.specs.declared.link.Peer.{Peer}
use Rattle.pl_wiring.specs.declared.link.Peer.TheVariants.{HostPort, Switch}
use Rattle.pl_wiring.specs.Index.{port_index}
use Rattle.pl_wiring.specs.Peers.{peer_of}
use Rattle.pl_node.specs.declared.messages.ToManager.{ToManager}
use Rattle.pl_node.specs.declared.messages.ToSwitch.{ToSwitch}
use Rattle.pl_node.specs.HostInputs.{HostAnswer, HostInput}
use Rattle.pl_node.specs.HostInputs.HostAnswer.{Nothing, Played, Received}
use Rattle.pl_node.specs.HostInputs.HostInput.{Receives, Starts}
use Rattle.pl_node.specs.HostViews.{HostView}
use Rattle.pl_node.specs.SwitchInputs.{SwitchInput}
use Rattle.pl_node.specs.SwitchInputs.SwitchInput.{Comes, Says, Tick}
use Rattle.pl_node.specs.SwitchViews.{SwitchView}
use Rattle.pl_steps.specs.Steps.{SwitchStep}
use Rattle.pl_switch_rule.specs.SwitchRule.{by_flow, switch_step}
use Rattle.pl_manager_rule.specs.ManagerRule.{ManagerStep}
use Rattle.pl_manager_rule.specs.WholeRule.{manager_steps}
use Rattle.pl_host_rule.specs.HostRule.{HostStep, host_step}
use Rattle.pl_journal.specs.declared.cause.Cause.TheVariants.{HostGone}
use Rattle.pl_journal.specs.declared.entry.Entry.TheVariants.{Crossed, Dropped}
use Rattle.pl_world.specs.declared.event.Event.{Event}
use Rattle.pl_world.specs.declared.event.Event.TheVariants as event
use Rattle.pl_world.specs.declared.event.QueueName.{QueueName}
use Rattle.pl_world.specs.declared.event.QueueName.TheVariants as queue
use Rattle.pl_world.specs.declared.item.Item.{Item}
use Rattle.pl_world.specs.declared.item.Item.TheVariants.{Control, Data}
use Rattle.pl_world.specs.declared.spoken_frame.SpokenFrame.{SpokenFrame}
use Rattle.pl_world.specs.declared.spoken_frame.SpokenFrame.TheVariants.{Silent, Waiting}
use Rattle.pl_world.specs.declared.attachment.AttachmentPoint.{AttachmentPoint}
use Rattle.pl_world.specs.Changes.{noted, out_of, receiver, switch_no}
use Rattle.pl_world.specs.LinksAndMoves.{link_between, link_failed}
use Rattle.pl_world.specs.OtherActs.{heard_after_tick, host_stepped, manager_stepped, reception_noted, skip_noted}
use Rattle.pl_world.specs.QueueOrder.{next_queue, queue_at}
use Rattle.pl_world.specs.Refusals.{refusal}
use Rattle.pl_world.specs.SwitchActs.{switch_stepped}
use Rattle.pl_world.specs.WorldRule.{heard_item, played_as}
use Rattle.pl_world.specs.Worlds.{WorldView}
use Rattle.pl_queues.specs.Queues.{items_at}

abbrev pub switch_did : WorldView → ℕ → SwitchView → SpokenFrame → SwitchStep → WorldView
switch_did w s before speech step = switch_stepped w s before step.view speech step.acts

abbrev pub switch_turns : WorldView → ℕ → SwitchInput → SpokenFrame → Option SwitchView → Option WorldView
switch_turns w s input speech None = None
switch_turns w s input speech (Some before) = Some (switch_did w s before speech (switch_step by_flow before input))

abbrev pub switch_turn : WorldView → ℕ → SwitchInput → SpokenFrame → Option WorldView
switch_turn w s input speech = switch_turns w s input speech (slice_get w.switches s)

abbrev pub comes_at_switch : WorldView → ℕ → ℕ → Item → Option WorldView
comes_at_switch w s port (Control frame) = switch_turn w s (Comes port frame) Silent
comes_at_switch w s port (Data id frame) = switch_turn (noted w (Crossed id (switch_no s))) s (Comes port frame) (Waiting id false)

-- the world behind a host's step, by the answer that the step gives
abbrev pub host_did : WorldView → ℕ → HostStep → WorldView
host_did w h step = host_stepped w h step.view step.acts

abbrev pub host_turns : WorldView → ℕ → HostInput → Option HostView → Option WorldView
host_turns w h input None = None
host_turns w h input (Some before) = Some (host_did w h (host_step before input))

abbrev pub received_as : WorldView → ℕ → ℕ → List ℕ → HostStep → HostAnswer → Option WorldView
received_as w h id frame step (Received reception) = Some (host_did (reception_noted w h id frame reception) h step)
received_as w h id frame step Nothing = None
received_as w h id frame step (Played skip) = None

abbrev pub received : WorldView → ℕ → ℕ → List ℕ → HostStep → Option WorldView
received w h id frame step = received_as w h id frame step step.answer

abbrev pub receives : WorldView → ℕ → ℕ → List ℕ → Option HostView → Option WorldView
receives w h id frame None = None
receives w h id frame (Some before) = received w h id frame (host_step before (Receives frame))

abbrev pub comes_at_host : WorldView → ℕ → List ℕ → Option ℕ → Option WorldView
comes_at_host w id frame None = Some (noted w (Dropped id HostGone))
comes_at_host w id frame (Some h) = receives w h id frame (slice_get w.hosts h)

abbrev pub comes_out : WorldView → ℕ → ℕ → Item → Option WorldView
comes_out w s port (Control frame) = Some w
comes_out w s port (Data id frame) = comes_at_host w id frame (receiver w s port frame)

abbrev pub comes_over : WorldView → ℕ → ℕ → Item → Peer → Option WorldView
comes_over w s port item (Switch t q) = comes_at_switch w t.0 q item
comes_over w s port item HostPort = comes_out w s port item

abbrev pub comes_in : WorldView → ℕ → Item → Option AttachmentPoint → Option WorldView
comes_in w h item None = None
comes_in w h item (Some attachment) = comes_at_switch (heard_item w h item) attachment.edge.0 attachment.port item

abbrev pub from_host : WorldView → ℕ → List Item → Option WorldView
from_host w h [] = None
from_host w h (item ∷ items) = comes_in (record w { from_hosts = slice_set w.from_hosts h items }) h item (slice_get w.attachments h)

abbrev pub out_by : WorldView → ℕ → ℕ → List Item → Option WorldView
out_by w s port [] = None
out_by w s port (item ∷ items) = comes_over (record w { out = slice_set w.out (port_index w.plan.k s port) items }) s port item (peer_of w.plan s port)

abbrev pub manager_did : WorldView → ManagerStep → WorldView
manager_did w step = manager_stepped w step.view step.acts

abbrev pub manager_turn : WorldView → ToManager → Option SwitchId → Option WorldView
manager_turn w told None = None
manager_turn w told (Some id) = Some (manager_did w (manager_steps w.manager id told))

abbrev pub to_manager : WorldView → ℕ → List ToManager → Option WorldView
to_manager w s [] = None
to_manager w s (told ∷ items) = manager_turn (record w { to_manager = slice_set w.to_manager s items }) told (slice_get w.plan.ids s)

abbrev pub from_manager : WorldView → ℕ → List ToSwitch → Option WorldView
from_manager w s [] = None
from_manager w s (says ∷ items) = switch_turn (record w { from_manager = slice_set w.from_manager s items }) s (Says says) Silent

abbrev pub delivered : WorldView → QueueName → Option WorldView
delivered w (queue.FromHost h) = from_host w h.0 (items_at w.from_hosts h.0)
delivered w (queue.Port s port) = out_by w s.0 port (out_of w s.0 port)
delivered w (queue.ToManager s) = to_manager w s.0 (items_at w.to_manager s.0)
delivered w (queue.FromManager s) = from_manager w s.0 (items_at w.from_manager s.0)

abbrev pub failed : WorldView → Option Link → Option WorldView
failed w None = None
failed w (Some link) = Some (link_failed w link)

-- a recorded frame is played
abbrev pub played_by : WorldView → ℕ → HostStep → HostAnswer → Option WorldView
played_by w h step (Played skip) = Some (host_did (skip_noted w h skip) h step)
played_by w h step Nothing = None
played_by w h step (Received reception) = None

abbrev pub played : WorldView → ℕ → HostStep → Option WorldView
played w h step = played_by w h step step.answer

abbrev pub plays : WorldView → ℕ → HostInput → Option HostView → Option WorldView
plays w h input None = None
plays w h input (Some before) = played w h (host_step before input)

abbrev pub happened : WorldView → Event → Option WorldView
happened w (event.Deliver name) = delivered w name
happened w (event.Tick s) = switch_turn (record w { heard = heard_after_tick s.0 w.attachments w.heard }) s.0 Tick Silent
happened w (event.Fail a b) = failed w (link_between w.plan a.0 b.0)
happened w (event.Start h) = host_turns w h.0 Starts (slice_get w.hosts h.0)
happened w (event.Play h frame original raw) = plays w h.0 (played_as raw frame original) (slice_get w.hosts h.0)
happened w happens = None

abbrev pub made_if : WorldView → Event → Bool → Option WorldView
made_if w happens true = happened (record w { steps = w.steps + 1 }) happens
made_if w happens false = None

-- a step that is not refused
abbrev pub made : WorldView → Event → Option WorldView
made w happens = made_if w happens (is_none (refusal w happens))

-- the head of the first queue with items, again and again, at most n times, until there is none
abbrev pub advanced : WorldView → Option ℕ → Option WorldView
advanced w None = Some w
advanced w (Some at) = made w (event.Deliver (queue_at w.plan at))

abbrev pub advance : Option WorldView → Option WorldView
advance None = None
advance (Some w) = advanced w (next_queue w 0)

abbrev pub swept : ℕ → Option WorldView → Option WorldView
swept zero world = world
swept (suc n) world = swept n (advance world)

abbrev pub then_made : Option WorldView → Event → Option WorldView
then_made None happens = None
then_made (Some w) happens = made w happens

-- events one after the other
abbrev pub all_made : Option WorldView → List Event → Option WorldView
all_made world [] = world
all_made world (e ∷ events) = all_made (then_made world e) events
