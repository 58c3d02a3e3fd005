-- Where each frame of a world is on its way, by what the journal says of it. The entries that are past have the newest first.
use Rattle.std.specs.Prelude.{◌≡◌, ◌<◌, ℕ, not, Bool, false, true, List, length, Option, None, Some, reverse, slice_get, ◌&&◌}
use Rattle.std.specs.List.{AllByRecursion}
use Rattle.std.specs.Option.{option_map}
use Rattle.pl_frame.specs.declared.address.Mac.{Mac}
use Rattle.pl_frame.specs.Ethernet.{destination_of, source_of}
use Rattle.pl_pmac.specs.declared.pmac.Pmac.{Pmac}
use Rattle.pl_pmac.specs.Pmac.{PmacFits, mac_of, pmac_number, pmac_of}
use Rattle.pl_wiring.specs.declared.label.SwitchNo.{SwitchNo}
use Rattle.pl_wiring.specs.declared.link.Peer.{Peer}
use Rattle.pl_wiring.specs.declared.link.Peer.TheVariants.{HostPort, Switch}
use Rattle.pl_wiring.specs.Index.{port_index}
use Rattle.pl_wiring.specs.LiveLinks.{LivePorts, is_live_at}
use Rattle.pl_wiring.specs.Peers.{peer_of}
use Rattle.pl_wiring.specs.Plan.{Plan}
use Rattle.pl_layouts.specs.declared.place.Place.{Place}
use Rattle.pl_layouts.specs.Frames.{arriving, is_arp, mac_number}
use Rattle.pl_layouts.specs.Memberships.{is_group}
use Rattle.pl_layouts.specs.Placement.{is_placed, nowhere}
use Rattle.pl_journal.specs.declared.entry.Entry.{Entry}
use Rattle.pl_journal.specs.Flights.{Flight, addressee, first_flight, first_of, flight_of, level_of, was_live}
use Rattle.pl_journal.specs.Lossy.{GoodTrailTo, RunTo, UnalteredFrom, mac_of_host}
use Rattle.pl_journal.specs.Places.{EdgePort, at_port, live_holder, is_at, is_failed, is_spent, number, edge_port, edge_port_of, are_live_there, is_live}
use Rattle.pl_node.specs.SwitchViews.{SwitchView}
use Rattle.pl_queues.specs.Queues.{items_at}
use Rattle.pl_world.specs.declared.item.Item.{Item}
use Rattle.pl_world.specs.declared.item.Item.TheVariants.{Control, Data}
use Rattle.pl_world.specs.declared.attachment.AttachmentPoint.{AttachmentPoint}
use Rattle.pl_world.specs.Worlds.{WorldView}
use Rattle.pl_law_flights.specs.Routes.{Route, fallen, levels, risen_or_fallen}

-- the place of a switch, as far as it knows it
abbrev pub known_place : Option SwitchView → Place
known_place None = nowhere
known_place (Some v) = v.place

abbrev pub place_in : List SwitchView → ℕ → Place
place_in switches s = known_place (slice_get switches s)

-- whatever the receiver's address, no other byte differs from those of the beginning
abbrev pub WillBeUnaltered : Flight → List ℕ → Type 0
WillBeUnaltered f frame = (mac : Mac) → length mac.0 ≡ 6 → UnalteredFrom f.sender f.source f.beginning (Some mac) (arriving frame None (Some mac))

-- the edge switch where a host's frame came in is placed
abbrev pub CameInPlaced : (ℕ → Place) → Option EdgePort → Type 0
CameInPlaced place came_in = (there : EdgePort) → came_in ≡ Some there → is_placed (place there.edge) ≡ true

-- A frame to one host is between two switches. Its source is that of one host, but in an ARP packet.
pub record IsOnWay (plan : Plan) (place : ℕ → Place) (f : Flight) (frame : List ℕ) (s t : ℕ) : Type 0 where
  pub route : Route plan.k place (pmac_of (destination_of frame)) f.leg s t
  pub unaltered : WillBeUnaltered f frame
  pub sender : is_arp frame ≡ false → is_group (source_of frame) ≡ false

-- what was granted and numbered: who holds a live address, the port where an address was granted last, its number since then, and which ports
-- have no vmid left and no address that is free
pub record AddressHistory : Type 0 where
  pub hold : ℕ → Option ℕ
  pub edge_ports : ℕ → Option EdgePort
  pub numbers : ℕ → Option ℕ
  pub spent : EdgePort → Bool

abbrev pub history_of : List Entry → AddressHistory
history_of past = record {
  hold = live_holder past;
  edge_ports = edge_port past;
  numbers = number past;
  spent = λ there. is_spent past there && are_live_there (is_live past) past there;
}

-- A frame of a group crossed on one leg all that it crossed, and no byte differs but its source's. Its source is an address that was granted.
pub record IsForMany (history : AddressHistory) (f : Flight) (frame : List ℕ) : Type 0 where
  pub leg : f.leg ≡ f.trail
  pub unaltered : UnalteredFrom f.sender f.source f.beginning None frame
  pub from : Pmac
  pub fits : PmacFits from
  pub source : source_of frame ≡ mac_of from
  pub there : EdgePort
  pub granted : history.edge_ports (pmac_number from) ≡ Some there

-- a frame is between two switches: it crossed the first one last, their link was live since then, and it carries its present address; one to a group
-- only rose, or rose to a core switch and then only fell
pub record IsBetweenSwitches (plan : Plan) (place : ℕ → Place) (history : AddressHistory) (f : Flight) (live : Bool) (frame : List ℕ) (s t : ℕ) : Type 0 where
  pub last : first_of f.trail ≡ Some s
  pub whole : live ≡ true
  pub group : is_group (destination_of f.beginning) ≡ is_group (destination_of frame)
  pub kept : is_group (destination_of frame) ≡ true → destination_of f.beginning ≡ destination_of frame
  pub address : f.address ≡ mac_number (destination_of frame)
  pub home : CameInPlaced place f.came_in
  pub many : is_group (destination_of frame) ≡ true → IsForMany history f frame
  pub rises : is_group (destination_of frame) ≡ true → levels plan.k f.leg ≡ risen_or_fallen (level_of plan.k s) (level_of plan.k t)
  pub one : is_group (destination_of frame) ≡ false → IsOnWay plan place f frame s t

-- a frame leaves by a port for the host that it is for (`to`), and its present address was granted there
pub record IsForHost (plan : Plan) (to : Option ℕ) (history : AddressHistory) (f : Flight) (frame : List ℕ) (s port : ℕ) : Type 0 where
  pub host : ℕ
  pub held : to ≡ Some host
  pub there : history.edge_ports f.address ≡ Some (at_port s port)
  pub reached : first_of f.leg ≡ Some s
  pub mac : mac_of_host plan host ≡ Some (destination_of frame)
  pub unaltered : UnalteredFrom f.sender f.source f.beginning (mac_of_host plan host) frame

-- a frame leaves by a host port of the switch that it crossed last, which is not the port of its source where it goes to a group: such a one came down to
-- that edge switch from a core switch
pub record IsLeaving (plan : Plan) (place : ℕ → Place) (to : Option ℕ) (history : AddressHistory) (f : Flight) (frame : List ℕ) (s port : ℕ) : Type 0 where
  pub last : first_of f.trail ≡ Some s
  pub group : is_group (destination_of f.beginning) ≡ is_group (destination_of frame)
  pub kept : is_group (destination_of frame) ≡ true → destination_of f.beginning ≡ destination_of frame
  pub home : CameInPlaced place f.came_in
  pub many : is_group (destination_of frame) ≡ true → IsForMany history f frame
  pub rises : is_group (destination_of frame) ≡ true → levels plan.k f.leg ≡ fallen 0
  pub not_back : is_group (destination_of frame) ≡ true → is_at (history.edge_ports (mac_number (source_of frame))) (at_port s port) ≡ false
  pub one : is_group (destination_of frame) ≡ false → IsForHost plan to history f frame s port

-- what waits at a host is as it was sent
abbrev pub IsWaiting : Plan → List Entry → ℕ → Item → Type 0
IsWaiting plan past h (Control frame) = Unit {0}
IsWaiting plan past h (Data id frame) = flight_of plan past id ≡ first_flight id (Some h) frame (mac_number (destination_of frame))

-- what goes out of a port, by what is there
abbrev pub IsGoing : Plan → (ℕ → Place) → List Entry → ℕ → ℕ → Peer → ℕ → List ℕ → Type 0
IsGoing plan place past s port (Switch t q) id frame = IsBetweenSwitches plan place (history_of past) (flight_of plan past id) (was_live past id s t.0) frame s t.0
IsGoing plan place past s port HostPort id frame = IsLeaving plan place (addressee past id) (history_of past) (flight_of plan past id) frame s port

abbrev pub IsOut : Plan → (ℕ → Place) → List Entry → ℕ → ℕ → Item → Type 0
IsOut plan place past s port (Control frame) = Unit {0}
IsOut plan place past s port (Data id frame) = IsGoing plan place past s port (peer_of plan s port) id frame

-- each frame in a queue is on its way there
pub record Flying (plan : Plan) (place : ℕ → Place) (past : List Entry) (from_hosts out : List (List Item)) : Type 0 where
  pub waiting : (h : ℕ) → AllByRecursion (IsWaiting plan past h) (items_at from_hosts h)
  pub going : (s port : ℕ) → port < plan.k → AllByRecursion (IsOut plan place past s port) (items_at out (port_index plan.k s port))

-- a link is live where the journal does not say that it is failed
abbrev pub LinksAgree : Plan → List Entry → LivePorts → Type 0
LinksAgree plan past links = (s port : ℕ) (t : SwitchNo) (q : ℕ) → peer_of plan s port ≡ Switch t q →
    is_live_at links s port ≡ not (is_failed past s t.0)

-- a host stands where the journal has it
abbrev pub edge_port_of_attachment : AttachmentPoint → EdgePort
edge_port_of_attachment attachment = at_port attachment.edge.0 attachment.port

abbrev pub AttachmentsAgree : Plan → List Entry → List AttachmentPoint → Type 0
AttachmentsAgree plan past attachments = (h : ℕ) → option_map edge_port_of_attachment (slice_get attachments h) ≡ edge_port_of plan past h

-- The entries that are past are a run of the lossy switch with good trails, and say of links, hosts and frames what is so.
pub record JournalSays (plan : Plan) (place : ℕ → Place) (past : List Entry) (links : LivePorts) (attachments : List AttachmentPoint) (from_hosts out : List (List Item))
    : Type 0 where
  pub run : RunTo plan past
  pub trail : GoodTrailTo plan past
  pub links_agree : LinksAgree plan past links
  pub attachments_agree : AttachmentsAgree plan past attachments
  pub flying : Flying plan place past from_hosts out

-- So it is of the journal of a world.
abbrev pub IsJournaled : WorldView → Type 0
IsJournaled w = JournalSays w.plan (place_in w.switches) (reverse w.journal) w.links w.attachments w.from_hosts w.out
