-- What a journal says of a frame: who sent it, where it goes, which switches it crossed, and whether it ended.
-- The entries that are past are taken here with the newest first. A frame is named by its number.
use Rattle.std.specs.Prelude.{ℕ, ◌+◌, ◌==◌, ◌&&◌, ◌||◌, not, nat_lt, nat_le, Bool, true, false, if◌then◌else◌, List, [], ◌∷◌, length, Option, Some, None, is_some}
use Rattle.std.specs.List.{list_any}
use Rattle.std.specs.Option.{option_and_then}
use Rattle.pl_frame.specs.Ethernet.{destination_of}
use Rattle.pl_pmac.specs.declared.pmac.Pmac.{Pmac}
use Rattle.pl_pmac.specs.Pmac.{pmac_number}
use Rattle.pl_wiring.specs.declared.label.Label.{Label}
use Rattle.pl_wiring.specs.declared.label.Label.TheVariants.{Aggregation, Core, Edge}
use Rattle.pl_wiring.specs.Labels.{label_of}
use Rattle.pl_wiring.specs.Plan.{Plan}
use Rattle.pl_journal.specs.declared.entry.Entry.{Entry}
use Rattle.pl_journal.specs.declared.entry.Entry.TheVariants.{Sent, Made, Crossed, Redirected, Copied, Arrived, Taken, Dropped, Granted, LinkDown, Moved}
use Rattle.pl_layouts.specs.Frames.{mac_number}
use Rattle.pl_journal.specs.Places.{EdgePort, is_at, live_holder, same_ends, edge_port_of, granted_at, is_adjacent, is_failed}

-- the frame that an entry begins, if it begins one
abbrev pub begun_by : Entry → Option ℕ
begun_by (Sent g h f) = Some g
begun_by (Made g s f) = Some g
begun_by (Copied g c) = Some c
begun_by entry = None

-- the frame that an entry ends, if it ends one
abbrev pub ended_by : Entry → Option ℕ
ended_by (Arrived g h f) = Some g
ended_by (Taken g s) = Some g
ended_by (Dropped g cause) = Some g
ended_by entry = None

abbrev pub is_frame : Option ℕ → ℕ → Bool
is_frame None id = false
is_frame (Some g) id = g == id

-- how many frames were sent, made or copied
abbrev pub begun : List Entry → ℕ
begun [] = 0
begun (entry ∷ past) = if is_some (begun_by entry) then begun past + 1 else begun past

abbrev pub is_begun : List Entry → ℕ → Bool
is_begun [] id = false
is_begun (entry ∷ past) id = is_frame (begun_by entry) id || is_begun past id

-- how often a frame arrived, was taken or was dropped
abbrev pub ends : List Entry → ℕ → ℕ
ends [] id = 0
ends (entry ∷ past) id = if is_frame (ended_by entry) id then ends past id + 1 else ends past id

-- it has begun and has not ended
abbrev pub is_flying : List Entry → ℕ → Bool
is_flying past id = is_begun past id && (ends past id == 0)

-- A copy has the past of the frame that it was copied from. Before this copy was made, the past of id is that of this frame:
abbrev pub before_copy : ℕ → ℕ → ℕ → ℕ
before_copy from copy id = if copy == id then from else id

-- the frame that this one is a copy of, through all copies; itself where it is none
abbrev pub root : List Entry → ℕ → ℕ
root [] id = id
root (Copied g c ∷ past) id = root past (before_copy g c id)
root (entry ∷ past) id = root past id

-- the host that sent it; none where a switch made it
abbrev pub sender : List Entry → ℕ → Option ℕ
sender [] id = None
sender (Sent g h f ∷ past) id = if g == id then Some h.0 else sender past id
sender (Copied g c ∷ past) id = sender past (before_copy g c id)
sender (entry ∷ past) id = sender past id

-- its bytes at the beginning
abbrev pub beginning : List Entry → ℕ → List ℕ
beginning [] id = []
beginning (Sent g h f ∷ past) id = if g == id then f else beginning past id
beginning (Made g s f ∷ past) id = if g == id then f else beginning past id
beginning (Copied g c ∷ past) id = beginning past (before_copy g c id)
beginning (entry ∷ past) id = beginning past id

-- its present address: the destination that it began with, or the address that it was last redirected to
abbrev pub address : List Entry → ℕ → ℕ
address [] id = 0
address (Sent g h f ∷ past) id = if g == id then mac_number (destination_of f) else address past id
address (Made g s f ∷ past) id = if g == id then mac_number (destination_of f) else address past id
address (Redirected g old new ∷ past) id = if g == id then pmac_number new else address past id
address (Copied g c ∷ past) id = address past (before_copy g c id)
address (entry ∷ past) id = address past id

-- whether the newest entry is a crossing of the frame
abbrev pub has_just_crossed : List Entry → ℕ → Bool
has_just_crossed (Crossed g s ∷ past) id = g == id
has_just_crossed _ id = false

-- the host that held a live address when the frame crossed its last switch, at the latest by the entry that directly follows that crossing
abbrev pub held_at_crossing : List Entry → ℕ → ℕ → Option ℕ
held_at_crossing [] id x = None
held_at_crossing (Crossed g s ∷ past) id x = if g == id then live_holder past x else held_at_crossing past id x
held_at_crossing (Granted y h e p ∷ past) id x =
    if has_just_crossed past id then live_holder (Granted y h e p ∷ past) x else held_at_crossing past id x
held_at_crossing (Copied g c ∷ past) id x = held_at_crossing past (before_copy g c id) x
held_at_crossing (entry ∷ past) id x = held_at_crossing past id x

-- one of these entries is a crossing of the frame
abbrev pub is_crossed : List Entry → ℕ → Bool
is_crossed [] id = false
is_crossed (Crossed g s ∷ entries) id = (g == id) || is_crossed entries id
is_crossed (entry ∷ entries) id = is_crossed entries id

-- The host that a frame for one host is for: the one that held its present address then. It is no part of what is said of its flight, since
-- a grant that another switch makes next may change it while the frame is between switches. So a frame that waits in the queue of a host's port
-- is for the same host while its address is freed or granted again.
abbrev pub addressee : List Entry → ℕ → Option ℕ
addressee past id = held_at_crossing past id (address past id)

abbrev pub is_redirected : List Entry → ℕ → Bool
is_redirected [] id = false
is_redirected (Redirected g old new ∷ past) id = (g == id) || is_redirected past id
is_redirected (Copied g c ∷ past) id = is_redirected past (before_copy g c id)
is_redirected (entry ∷ past) id = is_redirected past id

-- its leg: the switches that it crossed since it began or was last redirected, the last one first
abbrev pub leg : List Entry → ℕ → List ℕ
leg [] id = []
leg (Crossed g s ∷ past) id = if g == id then s.0 ∷ leg past id else leg past id
leg (Redirected g old new ∷ past) id = if g == id then [] else leg past id
leg (Copied g c ∷ past) id = leg past (before_copy g c id)
leg (entry ∷ past) id = leg past id

-- all the switches that it crossed, the last one first
abbrev pub trail : List Entry → ℕ → List ℕ
trail [] id = []
trail (Crossed g s ∷ past) id = if g == id then s.0 ∷ trail past id else trail past id
trail (Copied g c ∷ past) id = trail past (before_copy g c id)
trail (entry ∷ past) id = trail past id

abbrev pub first_of : List ℕ → Option ℕ
first_of [] = None
first_of (x ∷ xs) = Some x

abbrev pub is_empty : List ℕ → Bool
is_empty [] = true
is_empty (x ∷ xs) = false

-- whether this host moved since the frame was sent
abbrev pub has_moved_since : List Entry → ℕ → ℕ → Bool
has_moved_since [] id host = false
has_moved_since (Sent g h f ∷ past) id host = if g == id then false else has_moved_since past id host
has_moved_since (Copied g c ∷ past) id host = has_moved_since past (before_copy g c id) host
has_moved_since (Moved h e p ∷ past) id host = (h.0 == host) || has_moved_since past id host
has_moved_since (entry ∷ past) id host = has_moved_since past id host

-- the port, if it is one of this switch
abbrev pub if_of_switch : ℕ → EdgePort → Option EdgePort
if_of_switch s there = if there.edge == s then Some there else None

-- whether the newest entry is the frame's first crossing
abbrev pub has_just_come_in : List Entry → ℕ → Bool
has_just_come_in (Crossed g s ∷ past) id = (g == id) && is_empty (trail past id)
has_just_come_in _ id = false

-- Where a host's frame came in: the port of the switch that it crossed first where its sender stood then.
abbrev pub came_in : Plan → List Entry → ℕ → Option EdgePort
came_in plan [] id = None
came_in plan (Crossed g s ∷ past) id =
    if has_just_come_in (Crossed g s ∷ past) id then
    option_and_then (if_of_switch s.0) (option_and_then (edge_port_of plan past) (sender past id))
    else came_in plan past id
came_in plan (Copied g c ∷ past) id = came_in plan past (before_copy g c id)
came_in plan (entry ∷ past) id = came_in plan past id

abbrev pub address_at : List Entry → Option ℕ → Option EdgePort → Option Pmac
address_at past (Some host) (Some there) = granted_at past host there
address_at past _ _ = None

-- The source that a host's frame arrives with: the address that its sender was granted last where the frame came in, at the latest by the
-- entry that directly follows the frame's first crossing.
abbrev pub sender_address : Plan → List Entry → ℕ → Option Pmac
sender_address plan [] id = None
sender_address plan (Crossed g s ∷ past) id =
    if has_just_come_in (Crossed g s ∷ past) id then address_at past (sender past id) (came_in plan (Crossed g s ∷ past) id)
    else sender_address plan past id
sender_address plan (Granted x h e p ∷ past) id =
    if has_just_come_in past id then address_at (Granted x h e p ∷ past) (sender past id) (came_in plan past id)
    else sender_address plan past id
sender_address plan (Copied g c ∷ past) id = sender_address plan past (before_copy g c id)
sender_address plan (entry ∷ past) id = sender_address plan past id

-- whether a frame of the same root arrived at this port before
abbrev pub root_arrived_at : Plan → List Entry → ℕ → EdgePort → Bool
root_arrived_at plan [] r there = false
root_arrived_at plan (Arrived g h f ∷ past) r there = ((root past g == r) && is_at (edge_port_of plan past h.0) there) || root_arrived_at plan past r there
root_arrived_at plan (entry ∷ past) r there = root_arrived_at plan past r there

-- whether the link between the two was live from the frame's last crossing on
abbrev pub was_live : List Entry → ℕ → ℕ → ℕ → Bool
was_live [] id a b = false
was_live (Crossed g s ∷ past) id a b = if g == id then not (is_failed past a b) else was_live past id a b
was_live (LinkDown x y ∷ past) id a b = if same_ends x.0 y.0 a b then false else was_live past id a b
was_live (Copied g c ∷ past) id a b = was_live past (before_copy g c id) a b
was_live (entry ∷ past) id a b = was_live past id a b

-- edge switches are at level 0, aggregation switches at 1, core switches at 2
abbrev pub label_level : Label → ℕ
label_level (Edge pod i) = 0
label_level (Aggregation pod j) = 1
label_level (Core group m) = 2

abbrev pub level_of : ℕ → ℕ → ℕ
level_of k s = label_level (label_of k s)

-- each switch is of a lower level than the one before it
abbrev pub falls : ℕ → List ℕ → Bool
falls k [] = true
falls k (s ∷ []) = true
falls k (s ∷ t ∷ switches) = nat_lt (level_of k t) (level_of k s) && falls k (t ∷ switches)

-- the levels rise and then fall; the same holds of the switches in reverse
abbrev pub rises_and_falls : ℕ → List ℕ → Bool
rises_and_falls k [] = true
rises_and_falls k (s ∷ []) = true
rises_and_falls k (s ∷ t ∷ switches) =
    if nat_lt (level_of k s) (level_of k t) then rises_and_falls k (t ∷ switches) else falls k (s ∷ t ∷ switches)

abbrev pub are_different : List ℕ → Bool
are_different [] = true
are_different (s ∷ switches) = not (list_any (λ t. t == s) switches) && are_different switches

-- At most five switches whose levels rise and then fall. Those of a frame to one host are all different; a frame to a group may fall through
-- switches that it rose through.
abbrev pub is_good_leg : Bool → ℕ → List ℕ → Bool
is_good_leg to_group k switches = nat_le (length switches) 5 && (to_group || are_different switches) && rises_and_falls k switches

-- the switch is linked to the one that the frame crossed before it, by a link that was live all the while
abbrev pub is_led_to : Plan → List Entry → ℕ → List ℕ → ℕ → Bool
is_led_to plan past id [] s = true
is_led_to plan past id (t ∷ switches) s = is_adjacent plan t s && was_live past id t s

-- neighbours are linked in the wiring
abbrev pub are_adjacent : Plan → List ℕ → Bool
are_adjacent plan [] = true
are_adjacent plan (s ∷ []) = true
are_adjacent plan (s ∷ t ∷ switches) = is_adjacent plan t s && are_adjacent plan (t ∷ switches)

-- all that a journal says of a frame but whether it ended
pub record Flight : Type 0 where
  pub root : ℕ
  pub sender : Option ℕ
  pub beginning : List ℕ
  pub address : ℕ
  pub redirected : Bool
  pub leg : List ℕ
  pub trail : List ℕ
  pub came_in : Option EdgePort
  pub source : Option Pmac

abbrev pub flight_of : Plan → List Entry → ℕ → Flight
flight_of plan past id = record {
  root = root past id;
  sender = sender past id;
  beginning = beginning past id;
  address = address past id;
  redirected = is_redirected past id;
  leg = leg past id;
  trail = trail past id;
  came_in = came_in plan past id;
  source = sender_address plan past id;
}

-- that of a frame which begins so: it has crossed nothing yet
abbrev pub first_flight : ℕ → Option ℕ → List ℕ → ℕ → Flight
first_flight id from bytes to = record {
  root = id;
  sender = from;
  beginning = bytes;
  address = to;
  redirected = false;
  leg = [];
  trail = [];
  came_in = None;
  source = None;
}

-- and of one that has not begun
abbrev pub no_flight : ℕ → Flight
no_flight id = first_flight id None [] 0
