-- Which frames are sure to go the way of the tree to a host, and to arrive there: those whose way is learnt, live and left alone.
use Rattle.std.specs.Prelude.{◌≡◌, ℕ, true, false, Contains, List, [], ◌∷◌, map, reverse, Some, slice_get}
use Rattle.pl_frame.specs.declared.address.Mac.{Mac}
use Rattle.pl_frame.specs.Ethernet.{destination_of}
use Rattle.pl_wiring.specs.declared.label.SwitchNo.{SwitchNo}
use Rattle.pl_wiring.specs.declared.link.Peer.TheVariants.{Switch}
use Rattle.pl_wiring.specs.Labels.{label_of}
use Rattle.pl_wiring.specs.LiveLinks.{is_live_at}
use Rattle.pl_wiring.specs.Peers.{peer_of}
use Rattle.pl_layouts.specs.Memberships.{is_group}
use Rattle.pl_journal.specs.declared.entry.Entry.TheVariants.{Arrived}
use Rattle.pl_journal.specs.Flights.{trail}
use Rattle.pl_journal.specs.Lossy.{mac_of_host}
use Rattle.pl_node.specs.HostInputs.{HostRule}
use Rattle.pl_node.specs.ManagerDuties.{ManagerRule}
use Rattle.pl_queues.specs.Queues.{items_at}
use Rattle.pl_world.specs.declared.attachment.AttachmentPoint.{AttachmentPoint}
use Rattle.pl_world.specs.declared.event.Event.TheVariants as event
use Rattle.pl_world.specs.declared.item.Item.TheVariants.{Data}
use Rattle.pl_world.specs.Changes.{host_no}
use Rattle.pl_world.specs.Drops.{IsTakenAway}
use Rattle.pl_world.specs.Runs.{Befalls, Moment}
use Rattle.pl_world.specs.Runs.Moment.{Step}
use Rattle.pl_world.specs.Worlds.{WorldView}
use Rattle.pl_bridge_rule.specs.BridgeRule.{Bridges}
use Rattle.pl_bridge_rule.specs.Tree.{IsWay}
use Rattle.pl_law_bridge.specs.Learnt.{HasAt}
use Rattle.pl_law_bridge.specs.Travelling.{copies_made}

-- a live link leads from one switch to the other, and the first has the address at that port
pub record LeadsOn (w : WorldView) (mac : Mac) (s t : SwitchNo) : Type 0 where
  pub port : ℕ
  pub into : ℕ
  pub peer : peer_of w.plan s.0 port ≡ Switch t into
  pub live : is_live_at w.links s.0 port ≡ true
  pub learnt : HasAt w mac s port

-- each switch leads on to the next one, and the last one has the address at the port where its host stands
abbrev pub LeadsBy : WorldView → Mac → AttachmentPoint → List SwitchNo → Type 0
LeadsBy w mac to [] = ⊥
LeadsBy w mac to (s ∷ []) = (s ≡ to.edge) × HasAt w mac s to.port
LeadsBy w mac to (s ∷ t ∷ more) = LeadsOn w mac s t × LeadsBy w mac to (t ∷ more)

-- The way of the tree from one host to another at a moment: live, and learnt by each of its switches.
pub record IsClear (w : WorldView) (h g : ℕ) (mac : Mac) (from to : AttachmentPoint) (way : List SwitchNo) : Type 0 where
  pub sender : slice_get w.attachments h ≡ Some from
  pub receiver : slice_get w.attachments g ≡ Some to
  pub starts : slice_get way 0 ≡ Some from.edge
  pub tree : IsWay (map (λ (s : SwitchNo). label_of w.plan.k s.0) way)
  pub leads : LeadsBy w mac to way

-- the event moves a host, or takes this frame away
abbrev pub Disturbs : WorldView → Moment → ℕ → Type 0
Disturbs w (Step (event.Move h s port)) id = Unit {0}
Disturbs w (Step (event.Lose s port)) id = IsTakenAway w s.0 port id
Disturbs w moment id = ⊥

-- From one moment to another the way is clear, the moment behind the last event among them, and nothing disturbs. No event is refused.
abbrev pub StaysClear : ManagerRule → HostRule → ℕ → ℕ → ℕ → Mac → AttachmentPoint → AttachmentPoint → List SwitchNo → WorldView → List Moment → WorldView → Type 0
StaysClear manager host id h g mac from to way old [] new = IsClear old h g mac from to way × (new ≡ old)
StaysClear manager host id h g mac from to way old (moment ∷ moments) new =
    IsClear old h g mac from to way × (Disturbs old moment id → ⊥)
    × ((next : WorldView) × Befalls Bridges manager host old moment next × StaysClear manager host id h g mac from to way next moments new)

-- A frame that waits at its host h is for another host g, and has a clear way from then on.
pub record IsSure (manager : ManagerRule) (host : HostRule) (old : WorldView) (moments : List Moment) (new : WorldView) (id h g : ℕ) (frame : List ℕ) (way : List SwitchNo) : Type 0 where
  pub waits : Contains (items_at old.from_hosts h) (Data id frame)
  pub other : h ≡ g → ⊥
  pub unicast : is_group (destination_of frame) ≡ false
  pub addressed : mac_of_host old.plan g ≡ Some (destination_of frame)
  pub from : AttachmentPoint
  pub to : AttachmentPoint
  pub stays : StaysClear manager host id h g (destination_of frame) from to way old moments new

-- A frame crossed just these switches, the last one first in its line of crossings; it was not copied; and it arrived at this host.
pub record WentBy (w : WorldView) (id g : ℕ) (frame : List ℕ) (way : List SwitchNo) : Type 0 where
  pub crossed : trail (reverse w.journal) id ≡ reverse (map (λ (s : SwitchNo). s.0) way)
  pub single : copies_made (reverse w.journal) id ≡ 0
  pub arrived : Contains w.journal (Arrived id (host_no g) frame)
