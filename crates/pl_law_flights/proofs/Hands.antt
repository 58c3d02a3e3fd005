-- The frame that a switch has in hand amid its acts, and what its acts may do with it.
use Rattle.std.proofs.Common.{◌≡◌, ℕ, not, Bool, true, false, if◌then◌else◌, IsSome, IsTrue, List, [], ◌∷◌, length, reverse, Option, None, Some}
use Rattle.std.specs.List.{AllByRecursion}
use Rattle.pl_frame.specs.Ethernet.{destination_of}
use Rattle.pl_pmac.specs.declared.pmac.Pmac.{Pmac}
use Rattle.pl_pmac.specs.Pmac.{pmac_number}
use Rattle.pl_wiring.specs.declared.link.Peer.{Peer}
use Rattle.pl_wiring.specs.declared.link.Peer.TheVariants.{HostPort, Switch}
use Rattle.pl_wiring.specs.LiveLinks.{LivePorts}
use Rattle.pl_wiring.specs.Peers.{peer_of}
use Rattle.pl_wiring.specs.Plan.{Plan}
use Rattle.pl_layouts.specs.declared.place.Place.{Place}
use Rattle.pl_layouts.specs.Frames.{is_takeable, mac_number}
use Rattle.pl_layouts.specs.Memberships.{group_of, is_group}
use Rattle.pl_journal.specs.declared.cause.Cause.{Cause}
use Rattle.pl_journal.specs.declared.cause.Cause.TheVariants as cause
use Rattle.pl_journal.specs.declared.entry.Entry.{Entry}
use Rattle.pl_journal.specs.declared.entry.Entry.TheVariants.{Crossed, Dropped}
use Rattle.pl_journal.specs.Causes.{is_bad_arp, is_routed}
use Rattle.pl_journal.specs.Flights.{Flight, address, addressee, first_flight, first_of, flight_of, is_empty, is_flying, is_redirected, leg, trail, was_live}
use Rattle.pl_journal.specs.Lossy.{IsNewer}
use Rattle.pl_journal.specs.Places.{EdgePort, at_port, has_failed_link, is_failed, live_holder}
use Rattle.pl_node.specs.declared.acts.Act.{Act}
use Rattle.pl_node.specs.declared.acts.Act.TheVariants as act
use Rattle.pl_world.specs.declared.item.Item.{Item}
use Rattle.pl_world.specs.declared.spoken_frame.SpokenFrame.{SpokenFrame}
use Rattle.pl_world.specs.declared.spoken_frame.SpokenFrame.TheVariants.{Over, Passed, Silent, Waiting}
use Rattle.pl_world.specs.declared.attachment.AttachmentPoint.{AttachmentPoint}
use Rattle.pl_world.specs.Changes.{switch_no}
use Rattle.pl_world.specs.SwitchActs.{DuringActs}
use Rattle.pl_world.specs.Worlds.{WorldView}
use Rattle.pl_law_flights.specs.OnTheWay.{AddressHistory, IsBetweenSwitches, IsLeaving, JournalSays, history_of}

-- a frame that the switch made
abbrev pub made_here : ℕ → ℕ → List ℕ → Flight
made_here root s frame = record (first_flight root None frame (mac_number (destination_of frame))) { leg = s ∷ []; trail = s ∷ [] }

-- a frame that is redirected there, and crosses the switch again; between two addresses in a row it crosses nothing
abbrev pub turned : ℕ → Flight → Bool → Pmac → Flight
turned s f again new = record f { address = pmac_number new; redirected = true; leg = s ∷ []; trail = if again then f.trail else s ∷ f.trail }

-- No frame is in hand; or one waits for its end, as it is once it has crossed the switch (again); or one was passed on, and may be copied.
pub data Hand : Type 0 where
  Empty : Hand
  Waits : (f : Flight) (again : Bool) → Hand
  Spreads : (f : Flight) → Hand

abbrev pub MayLeave : Plan → (ℕ → Place) → AddressHistory → ℕ → ℕ → Peer → Flight → List ℕ → Type 0
MayLeave plan place history s port (Switch t q) f frame = IsBetweenSwitches plan place history f true frame s t.0
MayLeave plan place history s port HostPort f frame = IsLeaving plan place (history.hold f.address) history f frame s port

pub record MayTurn (history : AddressHistory) (s : ℕ) (f : Flight) (old new : Pmac) : Type 0 where
  pub present : f.address ≡ pmac_number old
  pub same_host : history.hold (pmac_number new) ≡ history.hold (pmac_number old)
  pub host : ℕ
  pub held : history.hold (pmac_number old) ≡ Some host
  pub newer : IsNewer (history.numbers (pmac_number old)) (history.numbers (pmac_number new))
  pub port : ℕ
  pub here : history.edge_ports (pmac_number old) ≡ Some (at_port s port)
  pub reached : first_of f.leg ≡ Some s

pub record MayTake (s : ℕ) (f : Flight) : Type 0 where
  pub of_host : IsSome f.sender
  pub alone : f.leg ≡ s ∷ []
  pub takeable : IsTrue (is_takeable f.beginning)

abbrev pub IsSpentThere : AddressHistory → Option EdgePort → Type 0
IsSpentThere history None = ⊥
IsSpentThere history (Some there) = history.spent there ≡ true

-- the causes for which a rule drops a frame that has crossed the switch
abbrev pub MayEnd : AddressHistory → Flight → Cause → Type 0
MayEnd history f cause.NotPlaced = Unit {0}
MayEnd history f cause.NoNextHop = Unit {0}
MayEnd history f cause.Lost = Unit {0}
MayEnd history f cause.NoAddress = history.hold f.address ≡ None
MayEnd history f cause.HostGone = ⊥
MayEnd history f cause.LinkDown = ⊥
MayEnd history f cause.Spent = IsSpentThere history f.came_in
MayEnd history f cause.BadArp = (length f.trail ≡ 1) × IsTrue (is_bad_arp f.beginning)
MayEnd history f cause.NoMember = IsTrue (is_routed (group_of (destination_of f.beginning)))

abbrev pub TurnsWell : (Hand → Type 0) → AddressHistory → ℕ → Pmac → Pmac → Hand → Type 0
TurnsWell next history s old new Empty = ⊥
TurnsWell next history s old new (Waits f again) = MayTurn history s f old new × next (Waits (turned s f again new) true)
TurnsWell next history s old new (Spreads f) = ⊥

abbrev pub PassesWell : (Hand → Type 0) → Plan → (ℕ → Place) → AddressHistory → ℕ → ℕ → List ℕ → Hand → Type 0
PassesWell next plan place history s port frame Empty = ⊥
PassesWell next plan place history s port frame (Waits f again) = MayLeave plan place history s port (peer_of plan s port) f frame × next (Spreads f)
PassesWell next plan place history s port frame (Spreads f) =
    IsTrue (is_group (destination_of f.beginning)) × MayLeave plan place history s port (peer_of plan s port) f frame × next (Spreads f)

abbrev pub TakesWell : (Hand → Type 0) → ℕ → Hand → Type 0
TakesWell next s Empty = ⊥
TakesWell next s (Waits f again) = MayTake s f × next Empty
TakesWell next s (Spreads f) = ⊥

abbrev pub DropsWell : (Hand → Type 0) → AddressHistory → Cause → Hand → Type 0
DropsWell next history cause Empty = ⊥
DropsWell next history cause (Waits f again) = MayEnd history f cause × next Empty
DropsWell next history cause (Spreads f) = ⊥

-- What the acts of switch s may be, by the frame in hand. A grant is not among them, nor that an address is freed.
abbrev pub GoodActs : Plan → (ℕ → Place) → AddressHistory → ℕ → List Act → Hand → Type 0
GoodActs plan place history s [] hand = Unit {0}
GoodActs plan place history s (act.Control port frame ∷ acts) hand = GoodActs plan place history s acts hand
GoodActs plan place history s (act.Tell told ∷ acts) hand = GoodActs plan place history s acts hand
GoodActs plan place history s (act.Grant pmac amac ∷ acts) hand = ⊥
GoodActs plan place history s (act.Free pmac ∷ acts) hand = ⊥
GoodActs plan place history s (act.Make frame ∷ acts) hand = (root : ℕ) → GoodActs plan place history s acts (Waits (made_here root s frame) false)
GoodActs plan place history s (act.Redirect old new ∷ acts) hand = TurnsWell (GoodActs plan place history s acts) history s old new hand
GoodActs plan place history s (act.Pass port frame ∷ acts) hand = PassesWell (GoodActs plan place history s acts) plan place history s port frame hand
GoodActs plan place history s (act.Take ∷ acts) hand = TakesWell (GoodActs plan place history s acts) s hand
GoodActs plan place history s (act.Drop cause ∷ acts) hand = DropsWell (GoodActs plan place history s acts) history cause hand

-- the journal once a frame that was redirected has crossed the switch again
abbrev pub again_past : ℕ → ℕ → Bool → List Entry → List Entry
again_past s id again past = if again then Crossed id (switch_no s) ∷ past else past

pub record InHand (plan : Plan) (s : ℕ) (f : Flight) (past : List Entry) (id : ℕ) : Type 0 where
  pub flight : flight_of plan past id ≡ f
  pub live : (t : ℕ) → was_live past id s t ≡ not (is_failed past s t)
  pub last : first_of f.trail ≡ Some s
  pub to : addressee past id ≡ live_holder past (address past id)

-- a frame that was redirected has crossed nothing since, and something before
abbrev pub IsTurned : List Entry → ℕ → Bool → Type 0
IsTurned past id false = Unit {0}
IsTurned past id true = (leg past id ≡ []) × (is_redirected past id ≡ true) × (is_empty (trail past id) ≡ false)

pub record IsHeld (plan : Plan) (s : ℕ) (f : Flight) (past : List Entry) (id : ℕ) (again : Bool) : Type 0 where
  pub in_hand : InHand plan s f (again_past s id again past) id
  pub turned : IsTurned past id again

abbrev pub Holds : Plan → ℕ → List Entry → Hand → SpokenFrame → Type 0
Holds plan s past Empty Silent = Unit {0}
Holds plan s past Empty (Waiting id again) = ⊥
Holds plan s past Empty (Passed id) = ⊥
Holds plan s past Empty Over = Unit {0}
Holds plan s past (Waits f again) Silent = ⊥
Holds plan s past (Waits f again) (Waiting id redirected) = (again ≡ redirected) × IsHeld plan s f past id redirected
Holds plan s past (Waits f again) (Passed id) = ⊥
Holds plan s past (Waits f again) Over = ⊥
Holds plan s past (Spreads f) Silent = ⊥
Holds plan s past (Spreads f) (Waiting id again) = ⊥
Holds plan s past (Spreads f) (Passed id) = InHand plan s f past id × (is_flying past id ≡ true)
Holds plan s past (Spreads f) Over = ⊥

-- an end that was put off: the frame crossed this switch last, which has a failed link
pub record IsShown (plan : Plan) (past : List Entry) (s id : ℕ) (why : Cause) : Type 0 where
  pub down : why ≡ cause.LinkDown
  pub last : first_of (trail past id) ≡ Some s
  pub failed : has_failed_link plan past s ≡ true

abbrev pub IsPutOff : Plan → List Entry → ℕ → Entry → Type 0
IsPutOff plan past s (Dropped id why) = IsShown plan past s id why
IsPutOff plan past s entry = ⊥

-- amid the acts of switch s
pub record Amid (plan : Plan) (place : ℕ → Place) (s : ℕ) (hand : Hand) (past journal : List Entry) (links : LivePorts) (attachments : List AttachmentPoint)
    (from_hosts out : List (List Item)) (speech : SpokenFrame) (late : List Entry) : Type 0 where
  pub is : reverse journal ≡ past
  pub tells : JournalSays plan place past links attachments from_hosts out
  pub holds : Holds plan s past hand speech
  pub puts_off : AllByRecursion (IsPutOff plan past s) late

abbrev pub IsAmid : (ℕ → Place) → ℕ → Hand → List Entry → WorldView → SpokenFrame → List Entry → Type 0
IsAmid place s hand past w speech late = Amid w.plan place s hand past w.journal w.links w.attachments w.from_hosts w.out speech late

-- and so it goes on
pub record Next (place : ℕ → Place) (s : ℕ) (acts : List Act) (d : DuringActs) : Type 0 where
  pub hand : Hand
  pub past : List Entry
  pub amid : IsAmid place s hand past d.world d.speech d.late
  pub good : GoodActs d.world.plan place (history_of past) s acts hand
