-- What is kept of a frame: a value of fixed size but for its bytes.
use Rattle.std.specs.Prelude.{◌≡◌, ℕ, ◌+◌, ◌==◌, ◌<◌, not, Bool, true, false, if◌then◌else◌, List, [], ◌∷◌, length, take, Option, Some, None, slice_get}
use Rattle.std.specs.Option.{option_and_then}
use Rattle.pl_pmac.specs.declared.pmac.Pmac.{Pmac}
use Rattle.pl_pmac.specs.Pmac.{pmac_number}
use Rattle.pl_frame.specs.Ethernet.{destination_of}
use Rattle.pl_layouts.specs.Frames.{mac_number}
use Rattle.pl_wiring.specs.Plan.{Plan}
use Rattle.pl_journal.specs.declared.entry.Entry.{Entry}
use Rattle.pl_journal.specs.declared.entry.Entry.TheVariants.{Arrived, Copied, Crossed, Dropped, Granted, Made, Redirected, Sent, Taken}
use Rattle.pl_journal.specs.Places.{EdgePort, edge_port_of}
use Rattle.pl_journal.specs.Flights.{address, beginning, begun, came_in, ends, has_just_crossed, if_of_switch, is_empty, is_redirected, leg, root, sender, sender_address, trail}
use Rattle.pl_past.specs.Links.{crossed_at}
use Rattle.pl_past.specs.Moves.{sent_at}
use Rattle.pl_past.specs.Addressees.{asked_at}

pub record Kept : Type 0 where
  pub root : ℕ
  pub sender : Option ℕ
  pub beginning : List ℕ
  pub address : ℕ
  pub redirected : Bool
  pub leg : List ℕ
  pub trail : List ℕ
  pub came_in : Option EdgePort
  pub source : Option Pmac
  pub crossed : ℕ
  pub asked : ℕ
  pub sent : ℕ
  pub over : Bool

-- five switches of a leg and two of a trail are enough
abbrev pub kept : Plan → List Entry → ℕ → Kept
kept plan past id = record {
  root = root past id;
  sender = sender past id;
  beginning = beginning past id;
  address = address past id;
  redirected = is_redirected past id;
  leg = take 5 (leg past id);
  trail = take 2 (trail past id);
  came_in = came_in plan past id;
  source = sender_address plan past id;
  crossed = crossed_at past id;
  asked = asked_at past id;
  sent = sent_at past id;
  over = not (ends past id == 0);
}

-- a frame that begins; entry n sent it, 0 where a switch made it
abbrev pub first_kept : ℕ → Option ℕ → List ℕ → ℕ → Kept
first_kept id from bytes n = record {
  root = id;
  sender = from;
  beginning = bytes;
  address = mac_number (destination_of bytes);
  redirected = false;
  leg = [];
  trail = [];
  came_in = None;
  source = None;
  crossed = 0;
  asked = 0;
  sent = n;
  over = false;
}

-- one that crosses a switch by entry n: where its sender stands there, if it comes in by this crossing, and the address that its sender
-- has there
abbrev pub entrance : Plan → List Entry → ℕ → ℕ → Option EdgePort
entrance plan past id s = option_and_then (if_of_switch s) (option_and_then (edge_port_of plan past) (sender past id))

abbrev pub crossing : ℕ → ℕ → Option EdgePort → Option Pmac → Kept → Kept
crossing n s there source frame = record frame {
  leg = take 5 (s ∷ frame.leg);
  trail = take 2 (s ∷ frame.trail);
  came_in = if is_empty frame.trail then there else frame.came_in;
  source = if is_empty frame.trail then source else frame.source;
  crossed = n;
  asked = n;
}

-- one thing and no more
abbrev pub is_single : List ℕ → Bool
is_single [] = false
is_single (x ∷ xs) = is_empty xs

-- one that crossed a switch just before grant n: that grant counts for whom it is for, and for its source if it came in by that crossing
abbrev pub granting : ℕ → Option Pmac → Kept → Kept
granting n source frame = record frame { source = if is_single frame.trail then source else frame.source; asked = n }

-- one that goes on to another address
abbrev pub redirecting : Pmac → Kept → Kept
redirecting new frame = record frame { address = pmac_number new; redirected = true; leg = [] }

abbrev pub ending : Kept → Kept
ending frame = record frame { over = true }

-- the frame of which an entry changes what is kept
abbrev pub touched_by : List Entry → Entry → ℕ → Bool
touched_by past (Sent g h f) id = g == id
touched_by past (Made g s f) id = g == id
touched_by past (Crossed g s) id = g == id
touched_by past (Redirected g old new) id = g == id
touched_by past (Copied g c) id = c == id
touched_by past (Arrived g h f) id = g == id
touched_by past (Taken g s) id = g == id
touched_by past (Dropped g cause) id = g == id
touched_by past (Granted y h e p) id = has_just_crossed past id
touched_by past entry id = false

-- The frames of a table are what is kept of those that have begun, in order.
pub record IsTable (plan : Plan) (past : List Entry) (frames : List Kept) : Type 0 where
  pub many : length frames ≡ begun past
  pub each : (n : ℕ) → n < begun past → slice_get frames n ≡ Some (kept plan past (n + 1))
