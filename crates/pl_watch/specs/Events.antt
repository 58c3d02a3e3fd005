-- The line of an event: as a script would say it, with the port beside each end of a link.
use Rattle.std.specs.Prelude.{ℕ, ◌+◌, if◌then◌else◌, List, [], ◌∷◌, codes, decimal, Option, Some, None, slice_get}
use Rattle.std.specs.Option.{option_map, option_map_or}
use Rattle.pl_frame.specs.Address.{ip4_text}
use Rattle.pl_journal.specs.Text.{host_text, switch_text}
use Rattle.pl_node.specs.ManagerViews.{ManagerView, restarted_manager}
use Rattle.pl_wiring.specs.declared.label.SwitchNo.{SwitchNo}
use Rattle.pl_wiring.specs.declared.link.Peer.{Peer}
use Rattle.pl_wiring.specs.declared.link.Peer.TheVariants.{HostPort, Switch}
use Rattle.pl_wiring.specs.Peers.{peer_of}
use Rattle.pl_world.specs.declared.attachment.AttachmentPoint.{AttachmentPoint}
use Rattle.pl_world.specs.declared.event.Event.{Event}
use Rattle.pl_world.specs.declared.event.Event.TheVariants as event
use Rattle.pl_world.specs.declared.event.QueueName.{QueueName}
use Rattle.pl_world.specs.declared.event.QueueName.TheVariants as queue
use Rattle.pl_world.specs.Changes.{host_at}
use Rattle.pl_world.specs.Worlds.{WorldView}

-- the port at the other end of a link, or the host that stands there, if one does
abbrev pub end_words : WorldView → ℕ → ℕ → Peer → List (List ℕ)
end_words w s port (Switch t q) = switch_text w.plan t.0 ∷ decimal q ∷ []
end_words w s port HostPort = option_map_or (host_text w.plan) (host_at w s port) (codes "-") ∷ []

abbrev pub along_words : WorldView → ℕ → ℕ → List (List ℕ)
along_words w s port = switch_text w.plan s ∷ decimal port ∷ end_words w s port (peer_of w.plan s port)

abbrev pub entering_words : WorldView → ℕ → Option AttachmentPoint → List (List ℕ)
entering_words w h None = host_text w.plan h ∷ []
entering_words w h (Some at) = host_text w.plan h ∷ switch_text w.plan at.edge.0 ∷ decimal at.port ∷ []

abbrev pub event_words : WorldView → Event → List (List ℕ)
event_words w (event.Deliver (queue.FromHost h)) = codes "deliver" ∷ entering_words w h.0 (slice_get w.attachments h.0)
event_words w (event.Deliver (queue.Port s port)) = codes "deliver" ∷ along_words w s.0 port
event_words w (event.Deliver (queue.ToManager s)) = codes "deliver" ∷ switch_text w.plan s.0 ∷ codes "manager" ∷ []
event_words w (event.Deliver (queue.FromManager s)) = codes "deliver" ∷ codes "manager" ∷ switch_text w.plan s.0 ∷ []
event_words w (event.Tick s) = codes "tick" ∷ switch_text w.plan s.0 ∷ []
event_words w (event.Fail a b) = codes "fail" ∷ switch_text w.plan a.0 ∷ switch_text w.plan b.0 ∷ []
event_words w (event.Repair a b) = codes "repair" ∷ switch_text w.plan a.0 ∷ switch_text w.plan b.0 ∷ []
event_words w (event.Lose s port) = codes "lose" ∷ along_words w s.0 port
event_words w (event.Move h s port) = codes "move" ∷ host_text w.plan h.0 ∷ switch_text w.plan s.0 ∷ decimal port ∷ []
event_words w (event.Start h) = codes "start" ∷ host_text w.plan h.0 ∷ []
event_words w (event.Play h frame original raw) = (if raw then codes "raw" else codes "send") ∷ host_text w.plan h.0 ∷ []
event_words w (event.Retry h) = codes "retry" ∷ host_text w.plan h.0 ∷ []
event_words w (event.Join h group) = codes "join" ∷ host_text w.plan h.0 ∷ ip4_text group ∷ []
event_words w (event.Leave h group) = codes "leave" ∷ host_text w.plan h.0 ∷ ip4_text group ∷ []
event_words w event.Restart = codes "restart" ∷ []

-- what the manager is to know where no switch tells it anything
abbrev pub manager_of : WorldView → Event → ManagerView
manager_of w event.Restart = restarted_manager w.manager.k (w.manager.epoch + 1)
manager_of w happens = w.manager

-- the port by which something leaves in an event, to be lost or to come at the other end
abbrev pub leaving_from : QueueName → Option (SwitchNo × ℕ)
leaving_from (queue.Port s port) = Some (s, port)
leaving_from name = None

abbrev pub leaving : Event → Option (SwitchNo × ℕ)
leaving (event.Lose s port) = Some (s, port)
leaving (event.Deliver name) = leaving_from name
leaving happens = None

-- The switch of which an event speaks: the one that hears, tells or loses something, where a host goes, or the first end of a link.
abbrev pub end_of : ℕ → Peer → ℕ
end_of s (Switch t q) = t.0
end_of s HostPort = s

abbrev pub node_of : WorldView → Event → Option ℕ
node_of w (event.Deliver (queue.FromHost h)) = option_map (λ (at : AttachmentPoint). at.edge.0) (slice_get w.attachments h.0)
node_of w (event.Deliver (queue.Port s port)) = Some (end_of s.0 (peer_of w.plan s.0 port))
node_of w (event.Deliver (queue.ToManager s)) = Some s.0
node_of w (event.Deliver (queue.FromManager s)) = Some s.0
node_of w (event.Tick s) = Some s.0
node_of w (event.Fail a b) = Some a.0
node_of w (event.Repair a b) = Some a.0
node_of w (event.Lose s port) = Some s.0
node_of w (event.Move h s port) = Some s.0
node_of w happens = None
