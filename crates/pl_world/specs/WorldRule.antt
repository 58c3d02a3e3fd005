-- What an event does to the world, whatever the rules of switches, manager and hosts are.
use Rattle.std.specs.Prelude.{◌≡◌, ℕ, ◌+◌, Bool, false, if◌then◌else◌, List, [], ◌∷◌, Option, Some, None, slice_get, slice_index_or, slice_set}
use Rattle.pl_frame.specs.declared.address.SwitchId.{SwitchId}
use Rattle.pl_wiring.specs.declared.link.Link.{Link}
use Rattle.pl_wiring.specs.declared.link.Peer.{Peer}
use Rattle.pl_wiring.specs.declared.link.Peer.TheVariants.{HostPort, Switch}
use Rattle.pl_wiring.specs.Index.{port_index}
use Rattle.pl_wiring.specs.Peers.{peer_of}
use Rattle.pl_node.specs.declared.acts.Act.{Act}
use Rattle.pl_node.specs.declared.acts.HostAct.{HostAct}
use Rattle.pl_node.specs.declared.acts.ManagerAct.{ManagerAct}
use Rattle.pl_journal.specs.declared.cause.Cause.TheVariants.{HostGone}
use Rattle.pl_journal.specs.declared.cause.Skip.{Skip}
use Rattle.pl_journal.specs.declared.entry.Entry.TheVariants.{Crossed, Dropped}
use Rattle.pl_world.specs.declared.event.Event.{Event}
use Rattle.pl_world.specs.declared.event.Event.TheVariants as event
use Rattle.pl_world.specs.declared.event.QueueName.{QueueName}
use Rattle.pl_world.specs.declared.event.QueueName.TheVariants as queue
use Rattle.pl_node.specs.declared.messages.ToManager.{ToManager}
use Rattle.pl_node.specs.declared.messages.ToSwitch.{ToSwitch}
use Rattle.pl_node.specs.declared.reception.Reception.{Reception}
use Rattle.pl_node.specs.HostInputs.{HostAnswer, HostInput, HostRule}
use Rattle.pl_node.specs.HostInputs.HostAnswer.{Nothing, Played, Received}
use Rattle.pl_node.specs.HostInputs.HostInput.{HasMoved, Joins, Leaves, Plays, PlaysRaw, Receives, Retries, Starts}
use Rattle.pl_node.specs.HostViews.{HostView}
use Rattle.pl_node.specs.ManagerDuties.{ManagerRule}
use Rattle.pl_node.specs.ManagerViews.{ManagerView}
use Rattle.pl_node.specs.SwitchInputs.{SwitchInput, SwitchRule}
use Rattle.pl_node.specs.SwitchInputs.SwitchInput.{Comes, Says, Tick}
use Rattle.pl_node.specs.SwitchViews.{SwitchView}
use Rattle.pl_world.specs.declared.item.Item.{Item}
use Rattle.pl_world.specs.declared.item.Item.TheVariants.{Control, Data}
use Rattle.pl_world.specs.declared.spoken_frame.SpokenFrame.{SpokenFrame}
use Rattle.pl_world.specs.declared.spoken_frame.SpokenFrame.TheVariants.{Silent, Waiting}
use Rattle.pl_world.specs.declared.attachment.AttachmentPoint.{AttachmentPoint}
use Rattle.pl_world.specs.Changes.{noted, out_of, receiver, switch_no}
use Rattle.pl_world.specs.LinksAndMoves.{host_moved, item_lost, link_between, link_failed, link_repaired}
use Rattle.pl_world.specs.Restarting.{manager_restarted}
use Rattle.pl_world.specs.OtherActs.{heard_after_tick, heard_with, host_stepped, manager_stepped, reception_noted, skip_noted}
use Rattle.pl_queues.specs.Queues.{items_at}
use Rattle.pl_world.specs.SwitchActs.{switch_stepped}
use Rattle.pl_world.specs.Worlds.{WorldView}

-- a switch steps by its rule, and its acts are done
pub record SwitchTurn (rule : SwitchRule) (w : WorldView) (s : ℕ) (input : SwitchInput) (speech : SpokenFrame) (new : WorldView) : Type 0 where
  pub before : SwitchView
  pub after : SwitchView
  pub acts : List Act
  pub found : slice_get w.switches s ≡ Some before
  pub ruled : rule before input after acts
  pub changed : new ≡ switch_stepped w s before after speech acts

-- a host steps by its rule with this answer, and its frames are sent
pub record HostTurn (rule : HostRule) (w : WorldView) (h : ℕ) (input : HostInput) (answer : HostAnswer) (new : WorldView) : Type 0 where
  pub before : HostView
  pub after : HostView
  pub acts : List HostAct
  pub found : slice_get w.hosts h ≡ Some before
  pub ruled : rule before input after acts answer
  pub changed : new ≡ host_stepped w h after acts

-- a recorded frame is played, or passed over for a reason that is written down
pub record HostPlays (rule : HostRule) (w : WorldView) (h : ℕ) (input : HostInput) (new : WorldView) : Type 0 where
  pub skip : Option Skip
  pub turn : HostTurn rule (skip_noted w h skip) h input (Played skip) new

-- a frame arrives at a host, or ends there
pub record HostReceives (rule : HostRule) (w : WorldView) (h id : ℕ) (frame : List ℕ) (new : WorldView) : Type 0 where
  pub reception : Reception
  pub turn : HostTurn rule (reception_noted w h id frame reception) h (Receives frame) (Received reception) new

-- the manager steps by its rule on what a switch told it
pub record ManagerTurn (rule : ManagerRule) (w : WorldView) (s : ℕ) (told : ToManager) (new : WorldView) : Type 0 where
  pub id : SwitchId
  pub after : ManagerView
  pub acts : List ManagerAct
  pub found : slice_get w.plan.ids s ≡ Some id
  pub ruled : rule w.manager id told after acts
  pub changed : new ≡ manager_stepped w after acts

-- an item comes at a port of a switch; a data frame crosses the switch
abbrev pub ComesAtSwitch : SwitchRule → WorldView → ℕ → ℕ → Item → WorldView → Type 0
ComesAtSwitch rule w s port (Control frame) new = SwitchTurn rule w s (Comes port frame) Silent new
ComesAtSwitch rule w s port (Data id frame) new = SwitchTurn rule (noted w (Crossed id (switch_no s))) s (Comes port frame) (Waiting id false) new

-- a data frame comes out of a host port, to the host that gets it; where there is none it ends
abbrev pub ComesAtHost : HostRule → WorldView → ℕ → List ℕ → Option ℕ → WorldView → Type 0
ComesAtHost rule w id frame None new = new ≡ noted w (Dropped id HostGone)
ComesAtHost rule w id frame (Some h) new = HostReceives rule w h id frame new

-- a control frame that comes out of a host port is discarded
abbrev pub ComesOut : HostRule → WorldView → ℕ → ℕ → Item → WorldView → Type 0
ComesOut rule w s port (Control frame) new = new ≡ w
ComesOut rule w s port (Data id frame) new = ComesAtHost rule w id frame (receiver w s port frame) new

-- an item that left a port comes at the other end of its link
abbrev pub ComesOver : SwitchRule → HostRule → WorldView → ℕ → ℕ → Item → Peer → WorldView → Type 0
ComesOver switch host w s port item (Switch t q) new = ComesAtSwitch switch w t.0 q item new
ComesOver switch host w s port item HostPort new = ComesOut host w s port item new

-- the host is heard with a data frame of it
abbrev pub heard_item : WorldView → ℕ → Item → WorldView
heard_item w h (Control frame) = w
heard_item w h (Data id frame) = record w { heard = slice_set w.heard h (heard_with frame (slice_index_or w.heard h None)) }

-- an item of a host comes at the port where the host stands by now
abbrev pub ComesIn : SwitchRule → WorldView → ℕ → Item → Option AttachmentPoint → WorldView → Type 0
ComesIn rule w h item None new = ⊥
ComesIn rule w h item (Some attachment) new = ComesAtSwitch rule (heard_item w h item) attachment.edge.0 attachment.port item new

-- the head of a queue is delivered
abbrev pub DeliversFromHost : SwitchRule → WorldView → ℕ → List Item → WorldView → Type 0
DeliversFromHost rule w h [] new = ⊥
DeliversFromHost rule w h (item ∷ items) new =
    ComesIn rule (record w { from_hosts = slice_set w.from_hosts h items }) h item (slice_get w.attachments h) new

abbrev pub DeliversOut : SwitchRule → HostRule → WorldView → ℕ → ℕ → List Item → WorldView → Type 0
DeliversOut switch host w s port [] new = ⊥
DeliversOut switch host w s port (item ∷ items) new =
    ComesOver switch host (record w { out = slice_set w.out (port_index w.plan.k s port) items }) s port item (peer_of w.plan s port) new

abbrev pub DeliversToManager : ManagerRule → WorldView → ℕ → List ToManager → WorldView → Type 0
DeliversToManager rule w s [] new = ⊥
DeliversToManager rule w s (told ∷ items) new = ManagerTurn rule (record w { to_manager = slice_set w.to_manager s items }) s told new

abbrev pub DeliversFromManager : SwitchRule → WorldView → ℕ → List ToSwitch → WorldView → Type 0
DeliversFromManager rule w s [] new = ⊥
DeliversFromManager rule w s (says ∷ items) new =
    SwitchTurn rule (record w { from_manager = slice_set w.from_manager s items }) s (Says says) Silent new

abbrev pub Delivers : SwitchRule → ManagerRule → HostRule → WorldView → QueueName → WorldView → Type 0
Delivers switch manager host w (queue.FromHost h) new = DeliversFromHost switch w h.0 (items_at w.from_hosts h.0) new
Delivers switch manager host w (queue.Port s port) new = DeliversOut switch host w s.0 port (out_of w s.0 port) new
Delivers switch manager host w (queue.ToManager s) new = DeliversToManager manager w s.0 (items_at w.to_manager s.0) new
Delivers switch manager host w (queue.FromManager s) new = DeliversFromManager switch w s.0 (items_at w.from_manager s.0) new

-- a switch ticks; so each host that stands there is not heard for one tick more
abbrev pub Ticks : SwitchRule → WorldView → ℕ → WorldView → Type 0
Ticks rule w s new = SwitchTurn rule (record w { heard = heard_after_tick s w.attachments w.heard }) s Tick Silent new

abbrev pub LinkFails : WorldView → Option Link → WorldView → Type 0
LinkFails w None new = ⊥
LinkFails w (Some link) new = new ≡ link_failed w link

abbrev pub LinkIsRepaired : WorldView → Option Link → WorldView → Type 0
LinkIsRepaired w None new = ⊥
LinkIsRepaired w (Some link) new = new ≡ link_repaired w link

-- the head of the queue out of a port is lost
abbrev pub Loses : WorldView → ℕ → ℕ → List Item → WorldView → Type 0
Loses w s port [] new = ⊥
Loses w s port (item ∷ items) new = new ≡ item_lost (record w { out = slice_set w.out (port_index w.plan.k s port) items }) item

-- a host moves from where it stands, and does there what it does after a move
abbrev pub HostMoves : HostRule → WorldView → ℕ → AttachmentPoint → Option AttachmentPoint → WorldView → Type 0
HostMoves rule w h to None new = ⊥
HostMoves rule w h to (Some from) new = HostTurn rule (host_moved w h from to) h HasMoved Nothing new

abbrev pub played_as : Bool → List ℕ → ℕ → HostInput
played_as raw frame original = if raw then PlaysRaw frame original else Plays frame original

-- what each event does
abbrev pub Happens : SwitchRule → ManagerRule → HostRule → WorldView → Event → WorldView → Type 0
Happens switch manager host w (event.Deliver name) new = Delivers switch manager host w name new
Happens switch manager host w (event.Tick s) new = Ticks switch w s.0 new
Happens switch manager host w (event.Fail a b) new = LinkFails w (link_between w.plan a.0 b.0) new
Happens switch manager host w (event.Repair a b) new = LinkIsRepaired w (link_between w.plan a.0 b.0) new
Happens switch manager host w (event.Lose s port) new = Loses w s.0 port (out_of w s.0 port) new
Happens switch manager host w (event.Move h s port) new =
    HostMoves host w h.0 (record { edge = s; port = port }) (slice_get w.attachments h.0) new
Happens switch manager host w (event.Start h) new = HostTurn host w h.0 Starts Nothing new
Happens switch manager host w (event.Play h frame original raw) new = HostPlays host w h.0 (played_as raw frame original) new
Happens switch manager host w (event.Retry h) new = HostTurn host w h.0 Retries Nothing new
Happens switch manager host w (event.Join h group) new = HostTurn host w h.0 (Joins group) Nothing new
Happens switch manager host w (event.Leave h group) new = HostTurn host w h.0 (Leaves group) Nothing new
Happens switch manager host w event.Restart new = new ≡ manager_restarted w

-- A step of the world is an event, and is counted.
abbrev pub WorldStep : SwitchRule → ManagerRule → HostRule → WorldView → Event → WorldView → Type 0
WorldStep switch manager host old happens new = Happens switch manager host (record old { steps = old.steps + 1 }) happens new
