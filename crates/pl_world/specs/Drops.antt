-- Which frames a step drops, and for which causes: what the journal says, and what the step's own turn says.
use Rattle.std.specs.Prelude.{◌≡◌, ℕ, ◌+◌, Bool, if◌then◌else◌, List, [], ◌∷◌, ◌++◌, drop, filter_map, length, map, take, Option, None, Some, slice_get}
use Rattle.pl_wiring.specs.declared.link.Link.{Link}
use Rattle.pl_wiring.specs.declared.link.Peer.{Peer}
use Rattle.pl_wiring.specs.declared.link.Peer.TheVariants.{HostPort, Switch}
use Rattle.pl_wiring.specs.Peers.{peer_of}
use Rattle.pl_node.specs.declared.acts.Act.{Act}
use Rattle.pl_node.specs.declared.acts.Act.TheVariants as act
use Rattle.pl_node.specs.declared.messages.ToSwitch.{ToSwitch}
use Rattle.pl_node.specs.declared.reception.Reception.{Reception}
use Rattle.pl_node.specs.declared.reception.Reception.TheVariants.{NotMember}
use Rattle.pl_node.specs.HostInputs.{HostRule}
use Rattle.pl_node.specs.ManagerDuties.{ManagerRule}
use Rattle.pl_node.specs.SwitchInputs.{SwitchInput, SwitchRule}
use Rattle.pl_node.specs.SwitchInputs.SwitchInput.{Comes, Says, Tick}
use Rattle.pl_journal.specs.declared.cause.Cause.{Cause}
use Rattle.pl_journal.specs.declared.cause.Cause.TheVariants.{HostGone, LinkDown, Lost, NoMember}
use Rattle.pl_journal.specs.declared.entry.Entry.{Entry}
use Rattle.pl_journal.specs.declared.entry.Entry.TheVariants.{Dropped, Made}
use Rattle.pl_queues.specs.Queues.{items_at}
use Rattle.pl_world.specs.declared.event.Event.{Event}
use Rattle.pl_world.specs.declared.event.Event.TheVariants as event
use Rattle.pl_world.specs.declared.event.QueueName.TheVariants as queue
use Rattle.pl_world.specs.declared.item.Item.{Item}
use Rattle.pl_world.specs.declared.item.Item.TheVariants.{Control, Data}
use Rattle.pl_world.specs.declared.attachment.AttachmentPoint.{AttachmentPoint}
use Rattle.pl_world.specs.Changes.{is_failed_at, out_of, receiver}
use Rattle.pl_world.specs.LinksAndMoves.{link_between}
use Rattle.pl_world.specs.WorldRule.{ComesAtHost, ComesAtSwitch, ComesIn, ComesOver, DeliversFromHost, DeliversFromManager, DeliversOut, WorldStep, heard_item}
use Rattle.pl_world.specs.Worlds.{WorldView}

-- ---- what the journal says

-- the entries that a step wrote
abbrev pub written : WorldView → WorldView → List Entry
written old new = drop (length old.journal) new.journal

abbrev pub drop_in : Entry → Option (ℕ × Cause)
drop_in (Dropped id cause) = Some (id, cause)
drop_in entry = None

-- the frames that these entries drop, each with its cause
abbrev pub drops_in : List Entry → List (ℕ × Cause)
drops_in entries = filter_map drop_in entries

abbrev pub make_in : Entry → Option ℕ
make_in (Made id switch frame) = Some id
make_in entry = None

-- the frames that switches make
abbrev pub made_in : List Entry → List ℕ
made_in entries = filter_map make_in entries

-- ---- what the acts of a switch say

-- What becomes of one frame: nothing is said of it, it is taken, it is dropped, or it goes out of a port, and a copy of it out of each further one.
pub data Fate : Type 0 where
  Unsaid : Fate
  IsTaken : Fate
  IsDropped : (cause : Cause) → Fate
  GoesOut : (port : ℕ) (further : List ℕ) → Fate

-- the ports by which acts pass on the frame that they speak of, until they speak of the next one, which the switch makes
abbrev pub ports_passed : List Act → List ℕ
ports_passed [] = []
ports_passed (act.Make frame ∷ acts) = []
ports_passed (act.Pass port frame ∷ acts) = port ∷ ports_passed acts
ports_passed (act ∷ acts) = ports_passed acts

-- and what becomes of it
abbrev pub fate : List Act → Fate
fate [] = Unsaid
fate (act.Make frame ∷ acts) = Unsaid
fate (act.Take ∷ acts) = IsTaken
fate (act.Drop cause ∷ acts) = IsDropped cause
fate (act.Pass port frame ∷ acts) = GoesOut port (ports_passed acts)
fate (act ∷ acts) = fate acts

-- how many copies of it begin
abbrev pub copies : Fate → ℕ
copies (GoesOut port further) = length further
copies fate = 0

-- Frames that were begun are numbered in turn. Below, `begun` is the number of the newest one.

-- a frame, or a copy, that goes out on a failed link is dropped there
abbrev pub dropped_on : (ℕ → Bool) → ℕ → ℕ → List (ℕ × Cause)
dropped_on is_failed id port = if is_failed port then (id, LinkDown) ∷ [] else []

abbrev pub copies_dropped : (ℕ → Bool) → ℕ → List ℕ → List (ℕ × Cause)
copies_dropped is_failed begun [] = []
copies_dropped is_failed begun (port ∷ ports) = dropped_on is_failed (begun + 1) port ++ copies_dropped is_failed (begun + 1) ports

-- what is dropped of a frame that has this fate
abbrev pub dropped_by : (ℕ → Bool) → ℕ → ℕ → Fate → List (ℕ × Cause)
dropped_by is_failed begun id (IsDropped cause) = (id, cause) ∷ []
dropped_by is_failed begun id (GoesOut port further) = dropped_on is_failed id port ++ copies_dropped is_failed begun further
dropped_by is_failed begun id fate = []

-- of the frames that the switch makes
abbrev pub dropped_of_made : (ℕ → Bool) → ℕ → List Act → List (ℕ × Cause)
dropped_of_made is_failed begun [] = []
dropped_of_made is_failed begun (act.Make frame ∷ acts) =
    dropped_by is_failed (begun + 1) (begun + 1) (fate acts) ++ dropped_of_made is_failed (begun + 1 + copies (fate acts)) acts
dropped_of_made is_failed begun (act ∷ acts) = dropped_of_made is_failed begun acts

-- and the numbers of these
abbrev pub numbers_made : ℕ → List Act → List ℕ
numbers_made begun [] = []
numbers_made begun (act.Make frame ∷ acts) = (begun + 1) ∷ numbers_made (begun + 1 + copies (fate acts)) acts
numbers_made begun (act ∷ acts) = numbers_made begun acts

abbrev pub made_by_acts : ℕ → Option ℕ → List Act → List ℕ
made_by_acts begun None acts = numbers_made begun acts
made_by_acts begun (Some id) acts = numbers_made (begun + copies (fate acts)) acts

-- of the frame that came, if there is one, and then of those that the switch makes
abbrev pub dropped_by_acts : (ℕ → Bool) → ℕ → Option ℕ → List Act → List (ℕ × Cause)
dropped_by_acts is_failed begun None acts = dropped_of_made is_failed begun acts
dropped_by_acts is_failed begun (Some id) acts =
    dropped_by is_failed begun id (fate acts) ++ dropped_of_made is_failed (begun + copies (fate acts)) acts

-- ---- whose turn a step is

-- a switch takes an input; where that is a data frame, it has a number
pub record Coming : Type 0 where
  pub switch : ℕ
  pub input : SwitchInput
  pub frame : Option ℕ

abbrev pub coming_at : ℕ → ℕ → Item → Coming
coming_at s port (Control frame) = record { switch = s; input = Comes port frame; frame = None }
coming_at s port (Data id frame) = record { switch = s; input = Comes port frame; frame = Some id }

abbrev pub coming_in : List Item → Option AttachmentPoint → Option Coming
coming_in (item ∷ items) (Some attachment) = Some (coming_at attachment.edge.0 attachment.port item)
coming_in items attachment = None

abbrev pub coming_over : List Item → Peer → Option Coming
coming_over (item ∷ items) (Switch t q) = Some (coming_at t.0 q item)
coming_over items peer = None

abbrev pub coming_from_manager : ℕ → List ToSwitch → Option Coming
coming_from_manager s [] = None
coming_from_manager s (says ∷ items) = Some (record { switch = s; input = Says says; frame = None })

-- the switch whose turn it is in an event, and what comes at it
abbrev pub coming : WorldView → Event → Option Coming
coming w (event.Tick s) = Some (record { switch = s.0; input = Tick; frame = None })
coming w (event.Deliver (queue.FromHost h)) = coming_in (items_at w.from_hosts h.0) (slice_get w.attachments h.0)
coming w (event.Deliver (queue.FromManager s)) = coming_from_manager s.0 (items_at w.from_manager s.0)
coming w (event.Deliver (queue.Port s port)) = coming_over (out_of w s.0 port) (peer_of w.plan s.0 port)
coming w happens = None

-- what a step says of frames: the acts of its switch, the answer of a host to a frame, or nothing
pub data Turn : Type 0 where
  OfSwitch : (acts : List Act) → Turn
  OfHost : (reception : Reception) → Turn
  Other : Turn

module _ (switch : SwitchRule) (manager : ManagerRule) (host : HostRule) where
  abbrev pub turn_at_switch : (w : WorldView) (s port : ℕ) (item : Item) (new : WorldView) → ComesAtSwitch switch w s port item new → Turn
  turn_at_switch w s port (Control frame) new turn = OfSwitch turn.acts
  turn_at_switch w s port (Data id frame) new turn = OfSwitch turn.acts

  abbrev pub turn_in : (w : WorldView) (h : ℕ) (item : Item) (attachment : Option AttachmentPoint) (new : WorldView) → ComesIn switch w h item attachment new → Turn
  turn_in w h item None new turn = Other
  turn_in w h item (Some attachment) new turn = turn_at_switch (heard_item w h item) attachment.edge.0 attachment.port item new turn

  abbrev pub turn_from_host : (w : WorldView) (h : ℕ) (items : List Item) (new : WorldView) → DeliversFromHost switch w h items new → Turn
  turn_from_host w h [] new turn = Other
  turn_from_host w h (item ∷ items) new turn = turn_in _ h item (slice_get w.attachments h) new turn

  abbrev pub turn_from_manager : (w : WorldView) (s : ℕ) (items : List ToSwitch) (new : WorldView) → DeliversFromManager switch w s items new → Turn
  turn_from_manager w s [] new turn = Other
  turn_from_manager w s (says ∷ items) new turn = OfSwitch turn.acts

  abbrev pub turn_at_host : (w : WorldView) (id : ℕ) (frame : List ℕ) (to : Option ℕ) (new : WorldView) → ComesAtHost host w id frame to new → Turn
  turn_at_host w id frame None new turn = Other
  turn_at_host w id frame (Some h) new turn = OfHost turn.reception

  abbrev pub turn_over : (w : WorldView) (s port : ℕ) (item : Item) (peer : Peer) (new : WorldView) → ComesOver switch host w s port item peer new → Turn
  turn_over w s port item (Switch t q) new turn = turn_at_switch w t.0 q item new turn
  turn_over w s port (Control frame) HostPort new turn = Other
  turn_over w s port (Data id frame) HostPort new turn = turn_at_host w id frame (receiver w s port frame) new turn

  abbrev pub turn_out : (w : WorldView) (s port : ℕ) (items : List Item) (new : WorldView) → DeliversOut switch host w s port items new → Turn
  turn_out w s port [] new turn = Other
  turn_out w s port (item ∷ items) new turn = turn_over _ s port item (peer_of w.plan s port) new turn

  abbrev pub turn_of : (old : WorldView) (happens : Event) (new : WorldView) → WorldStep switch manager host old happens new → Turn
  turn_of old (event.Tick s) new turn = OfSwitch turn.acts
  turn_of old (event.Deliver (queue.FromHost h)) new turn = turn_from_host _ h.0 (items_at old.from_hosts h.0) new turn
  turn_of old (event.Deliver (queue.FromManager s)) new turn = turn_from_manager _ s.0 (items_at old.from_manager s.0) new turn
  turn_of old (event.Deliver (queue.Port s port)) new turn = turn_out _ s.0 port (out_of old s.0 port) new turn
  turn_of old happens new turn = Other

-- ---- what a step drops

-- a lose event takes the frame away that is the first to leave by a port
pub record IsTakenAway (w : WorldView) (s port id : ℕ) : Type 0 where
  pub frame : List ℕ
  pub first : slice_get (out_of w s port) 0 ≡ Some (Data id frame)

-- the data frames among some items
abbrev pub number_in : Item → Option ℕ
number_in (Control frame) = None
number_in (Data id frame) = Some id

abbrev pub dropped_from : List Item → Cause → List (ℕ × Cause)
dropped_from items cause = map (λ id. (id, cause)) (filter_map number_in items)

-- what waits on a link, on its way up and on its way down
abbrev pub on_link : WorldView → Option Link → List Item
on_link w None = []
on_link w (Some link) = out_of w link.lower.0 link.lower_port ++ out_of w link.upper.0 link.upper_port

-- what waits of a host and for it, at the port where it stands
abbrev pub at_port : WorldView → Option AttachmentPoint → List Item
at_port w None = []
at_port w (Some attachment) = out_of w attachment.edge.0 attachment.port

abbrev pub of_host : WorldView → ℕ → List Item
of_host w h = items_at w.from_hosts h ++ at_port w (slice_get w.attachments h)

abbrev pub dropped_at : WorldView → Option Coming → List Act → List (ℕ × Cause)
dropped_at w None acts = []
dropped_at w (Some c) acts = dropped_by_acts (is_failed_at w c.switch) w.begun c.frame acts

-- A failed link drops what waits on it, a lost item itself, and a host that moves what waits of it and for it. A frame that comes out of a port
-- is dropped where no host stands that it is for, or where the host is no member of its group. A switch drops what its acts say.
abbrev pub dropped : WorldView → Event → Turn → List (ℕ × Cause)
dropped w happens (OfSwitch acts) = dropped_at w (coming w happens) acts
dropped w (event.Fail a b) Other = dropped_from (on_link w (link_between w.plan a.0 b.0)) LinkDown
dropped w (event.Lose s port) Other = dropped_from (take 1 (out_of w s.0 port)) Lost
dropped w (event.Move h s port) Other = dropped_from (of_host w h.0) HostGone
dropped w (event.Deliver (queue.Port s port)) Other = dropped_from (take 1 (out_of w s.0 port)) HostGone
dropped w (event.Deliver (queue.Port s port)) (OfHost NotMember) = dropped_from (take 1 (out_of w s.0 port)) NoMember
dropped w happens turn = []

-- A switch alone makes frames.
abbrev pub made_at : WorldView → Option Coming → List Act → List ℕ
made_at w None acts = []
made_at w (Some c) acts = made_by_acts w.begun c.frame acts

abbrev pub made : WorldView → Event → Turn → List ℕ
made w happens (OfSwitch acts) = made_at w (coming w happens) acts
made w happens turn = []
