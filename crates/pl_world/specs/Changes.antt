-- The small changes of a world of which every event is made.
use Rattle.std.specs.Prelude.{ℕ, ◌+◌, ◌==◌, ◌&&◌, ◌||◌, not, Bool, false, if◌then◌else◌, List, [], ◌∷◌, ◌++◌, Option, Some, None, slice_set}
use Rattle.std.specs.List.{position}
use Rattle.pl_frame.specs.declared.address.Mac.{Mac}
use Rattle.pl_frame.specs.declared.address.SwitchId.{SwitchId}
use Rattle.pl_frame.specs.Ethernet.{destination_of}
use Rattle.pl_wiring.specs.declared.host.HostNo.{HostNo}
use Rattle.pl_wiring.specs.declared.label.SwitchNo.{SwitchNo}
use Rattle.pl_wiring.specs.Index.{port_index}
use Rattle.pl_wiring.specs.LiveLinks.{is_live_at}
use Rattle.pl_wiring.specs.Peers.{peer_of}
use Rattle.pl_wiring.specs.Plan.{Plan}
use Rattle.pl_journal.specs.declared.cause.Cause.{Cause}
use Rattle.pl_journal.specs.declared.entry.Entry.{Entry}
use Rattle.pl_journal.specs.declared.entry.Entry.TheVariants.{Dropped, Sent}
use Rattle.pl_node.specs.declared.messages.ToManager.{ToManager}
use Rattle.pl_node.specs.declared.messages.ToSwitch.{ToSwitch}
use Rattle.pl_layouts.specs.Equality.{same_mac, same_switch}
use Rattle.pl_journal.specs.Lossy.{mac_of_host}
use Rattle.pl_layouts.specs.Memberships.{is_group}
use Rattle.pl_journal.specs.Places.{is_host_port}
use Rattle.pl_world.specs.declared.item.Item.{Item}
use Rattle.pl_world.specs.declared.item.Item.TheVariants.{Control, Data}
use Rattle.pl_world.specs.declared.attachment.AttachmentPoint.{AttachmentPoint}
use Rattle.pl_queues.specs.Queues.{items_at, put_at}
use Rattle.pl_world.specs.Worlds.{WorldView}

abbrev pub switch_no : ℕ → SwitchNo
switch_no n = record { 0 = n }

abbrev pub host_no : ℕ → HostNo
host_no n = record { 0 = n }

-- an entry is written
abbrev pub noted : WorldView → Entry → WorldView
noted w entry = record w { journal = w.journal ++ entry ∷ [] }

-- several entries are written
abbrev pub all_noted : WorldView → List Entry → WorldView
all_noted w entries = record w { journal = w.journal ++ entries }

-- a frame begins, and this entry says so; its number is the one after the last
abbrev pub begun_by : WorldView → Entry → WorldView
begun_by w entry = record w { journal = w.journal ++ entry ∷ []; begun = w.begun + 1 }

-- the port has a link, and that is failed
abbrev pub is_failed_at : WorldView → ℕ → ℕ → Bool
is_failed_at w s port = not (is_host_port (peer_of w.plan s port)) && not (is_live_at w.links s port)

-- the queue out of a port
abbrev pub out_of : WorldView → ℕ → ℕ → List Item
out_of w s port = items_at w.out (port_index w.plan.k s port)

-- an item waits in the queue out of a port
abbrev pub sent_out : WorldView → ℕ → ℕ → Item → WorldView
sent_out w s port item = record w { out = put_at w.out (port_index w.plan.k s port) item }

-- the same, unless the port's link is failed
abbrev pub sent_if_live : WorldView → ℕ → ℕ → Item → WorldView
sent_if_live w s port item = record w { out = if is_failed_at w s port then w.out else put_at w.out (port_index w.plan.k s port) item }

abbrev pub told_manager : WorldView → ℕ → ToManager → WorldView
told_manager w s told = record w { to_manager = put_at w.to_manager s told }

abbrev pub said_to : WorldView → ToSwitch → Option ℕ → WorldView
said_to w says None = w
said_to w says (Some s) = record w { from_manager = put_at w.from_manager s says }

-- the manager speaks to the switch that has this id
abbrev pub said_to_switch : WorldView → SwitchId → ToSwitch → WorldView
said_to_switch w id says = said_to w says (position (same_switch id) w.plan.ids)

-- a host sends a frame: it gets a number, and waits in the host's queue
abbrev pub sent_by_host : WorldView → ℕ → List ℕ → WorldView
sent_by_host w h frame = record w {
  journal = w.journal ++ Sent (w.begun + 1) (host_no h) frame ∷ [];
  begun = w.begun + 1;
  from_hosts = put_at w.from_hosts h (Data (w.begun + 1) frame);
}

-- the host that has an address of its own
abbrev pub host_of : Plan → Mac → Option ℕ
host_of plan mac = position (λ host. same_mac host.mac mac) plan.hosts

abbrev pub stands_at : ℕ → ℕ → AttachmentPoint → Bool
stands_at s port attachment = (attachment.edge.0 == s) && (attachment.port == port)

-- the host that stands at a port
abbrev pub host_at : WorldView → ℕ → ℕ → Option ℕ
host_at w s port = position (stands_at s port) w.attachments

abbrev pub is_address_of : Option Mac → Mac → Bool
is_address_of None dst = false
is_address_of (Some mac) dst = same_mac mac dst

abbrev pub if_for : Plan → List ℕ → Option ℕ → Option ℕ
if_for plan frame None = None
if_for plan frame (Some h) =
    if is_group (destination_of frame) || is_address_of (mac_of_host plan h) (destination_of frame) then Some h else None

-- the host at a port that gets a frame: the one that stands there, where the frame goes to a group or to its address
abbrev pub receiver : WorldView → ℕ → ℕ → List ℕ → Option ℕ
receiver w s port frame = if_for w.plan frame (host_at w s port)

-- the data frames among some items end for a cause
abbrev pub ends_of : Cause → List Item → List Entry
ends_of cause [] = []
ends_of cause (Control frame ∷ items) = ends_of cause items
ends_of cause (Data id frame ∷ items) = Dropped id cause ∷ ends_of cause items

-- a queue out of a port is emptied: its data frames end for a cause
abbrev pub emptied_out : WorldView → ℕ → ℕ → Cause → WorldView
emptied_out w s port cause = record w {
  out = slice_set w.out (port_index w.plan.k s port) [];
  journal = w.journal ++ ends_of cause (items_at w.out (port_index w.plan.k s port));
}

-- and a host's queue
abbrev pub emptied_from_host : WorldView → ℕ → Cause → WorldView
emptied_from_host w h cause = record w {
  from_hosts = slice_set w.from_hosts h [];
  journal = w.journal ++ ends_of cause (items_at w.from_hosts h);
}
