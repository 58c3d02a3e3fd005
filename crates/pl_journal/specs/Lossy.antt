-- One lossy switch. Its hosts hang on it by its ports and may move; it grants them addresses, loses frames for named causes, may copy
-- frames of a group, and delivers what it delivers once and unaltered. A journal is a run of it where each entry may follow those before.
-- It knows no records, control frames, votes, lists, tables or hashes of the switches that the fabric is made of.
use Rattle.std.specs.Prelude.{◌≡◌, ℕ, ◌+◌, ◌<◌, ◌==◌, ◌&&◌, ◌||◌, Bool, true, false, if◌then◌else◌, List, [], ◌∷◌, reverse, Option, Some, None, IsSome, IsTrue, MatchBool, slice_get}
use Rattle.std.specs.Bool.{IsFalse}
use Rattle.std.specs.Option.{option_map}
use Rattle.pl_frame.specs.declared.address.Mac.{Mac}
use Rattle.pl_frame.specs.Ethernet.{source_of, destination_of}
use Rattle.pl_pmac.specs.declared.pmac.Pmac.{Pmac}
use Rattle.pl_pmac.specs.Pmac.{pmac_number, mac_of}
use Rattle.pl_wiring.specs.Plan.{Plan}
use Rattle.pl_layouts.specs.declared.membership.Change.{Change}
use Rattle.pl_journal.specs.declared.entry.Entry.{Entry}
use Rattle.pl_journal.specs.declared.entry.Entry.TheVariants.{Line, Sent, Skipped, Made, Crossed, Redirected, Copied, Arrived, Taken, Dropped, Granted, Registered, Freed, Placed, LinkDown, LinkUp, Moved, Restarted, Settled, Unsettled}
use Rattle.pl_layouts.specs.Memberships.{group_of, group_number, changes_in, flood}
use Rattle.pl_layouts.specs.Frames.{mac_number, arriving, is_takeable}
use Rattle.pl_journal.specs.Places.{EdgePort, at_port, is_at, holder, is_live, edge_port, edge_port_of, has_stood, is_free, is_of_edge, highest, number, restarts, is_adjacent, is_failed}
use Rattle.pl_journal.specs.Flights.{address, addressee, beginning, begun, first_of, is_flying, is_good_leg, is_led_to, is_redirected, leg, root, root_arrived_at, sender, sender_address}
use Rattle.pl_journal.specs.Causes.{CauseShows, goes_to_group}

-- what the last of these changes for a group says, else what was before
abbrev pub joined_after : List Change → ℕ → Bool → Bool
joined_after [] n before = before
joined_after (c ∷ changes) n before = joined_after changes n (if group_number c.group == n then c.join else before)

-- Whether a host has joined a group: of what its own frames said of that group, the last is a join.
abbrev pub has_joined : List Entry → ℕ → ℕ → Bool
has_joined [] host n = false
has_joined (Sent g h f ∷ past) host n =
    if h.0 == host then joined_after (changes_in f) n (has_joined past host n) else has_joined past host n
has_joined (entry ∷ past) host n = has_joined past host n

-- the host may receive frames of the group: it has joined it, if it is a routed one
abbrev pub is_member : List Entry → ℕ → Option ℕ → Bool
is_member past host None = false
is_member past host (Some n) = (n == flood) || has_joined past host n

-- by its sender, if a host sent it, and the address of that host where it came in: without one it does not arrive
abbrev pub UnalteredFrom : Option ℕ → Option Pmac → List ℕ → Option Mac → List ℕ → Type 0
UnalteredFrom None _ begun dst frame = frame ≡ arriving begun None dst
UnalteredFrom (Some host) None begun dst frame = ⊥
UnalteredFrom (Some host) (Some x) begun dst frame = frame ≡ arriving begun (Some (mac_of x)) dst

-- The frame arrived unaltered. A host's frame has its sender's address as source; a frame that a switch made keeps its own.
-- A frame to one host has the receiver's address as destination. No byte but those of the address fields differs.
abbrev pub Unaltered : Plan → List Entry → ℕ → Option Mac → List ℕ → Type 0
Unaltered plan past id dst frame = UnalteredFrom (sender past id) (sender_address plan past id) (beginning past id) dst frame

-- the MAC address of a host
abbrev pub mac_of_host : Plan → ℕ → Option Mac
mac_of_host plan host = option_map (λ h. h.mac) (slice_get plan.hosts host)

-- the leg ends at this edge switch
abbrev pub EndsAt : List ℕ → Option EdgePort → Type 0
EndsAt switches there = IsSome there × (first_of switches ≡ option_map (λ s. s.edge) there)

abbrev pub is_same_place : Option EdgePort → Option EdgePort → Bool
is_same_place a None = false
is_same_place a (Some there) = is_at a there

abbrev pub is_root_there : Plan → List Entry → ℕ → Option EdgePort → Bool
is_root_there plan past r None = false
is_root_there plan past r (Some there) = root_arrived_at plan past r there

-- both addresses have registration numbers, and the second one's is larger
abbrev pub IsNewer : Option ℕ → Option ℕ → Type 0
IsNewer (Some m) (Some n) = m < n
IsNewer _ _ = ⊥

-- by the frame's leg, whether it was redirected before, and the port of its present address
abbrev pub is_turning : List ℕ → Bool → Option EdgePort → Bool
is_turning [] redirected there = redirected
is_turning (s ∷ switches) redirected None = false
is_turning (s ∷ switches) redirected (Some there) = s == there.edge

-- the leg goes on well to this switch
abbrev pub goes_well : Plan → List Entry → ℕ → List ℕ → ℕ → Bool
goes_well plan past id switches s = is_good_leg (goes_to_group past id) plan.k (s ∷ switches) && is_led_to plan past id switches s

-- a frame to one host: the frame is for the host, which stands where the frame's present address was granted, and the frame has come to that
-- edge switch
pub record ArrivesByAddress (plan : Plan) (past : List Entry) (id host : ℕ) (frame : List ℕ) : Type 0 where
  pub held : addressee past id ≡ Some host
  pub stands_there : edge_port_of plan past host ≡ edge_port past (address past id)
  pub reached : EndsAt (leg past id) (edge_port_of plan past host)
  pub unaltered : Unaltered plan past id (mac_of_host plan host) frame

-- a frame of a group: once at each port, never at the port of its source, and at members alone
pub record ArrivesByGroup (plan : Plan) (past : List Entry) (id host : ℕ) (frame : List ℕ) : Type 0 where
  pub reached : EndsAt (leg past id) (edge_port_of plan past host)
  pub unaltered : Unaltered plan past id None frame
  pub first : IsFalse (is_root_there plan past (root past id) (edge_port_of plan past host))
  pub not_back : IsFalse (is_same_place (edge_port past (mac_number (source_of frame))) (edge_port_of plan past host))
  pub member : IsTrue (is_member past host (group_of (destination_of frame)))

-- the frame goes on from its present address to a newer one of the same host; its leg has come to the edge switch of the old one, or is
-- empty since it was redirected there just before
pub record GoesToNewer (past : List Entry) (id : ℕ) (old new : Pmac) : Type 0 where
  pub present : address past id ≡ pmac_number old
  pub live : IsTrue (is_live past (pmac_number old)) × IsTrue (is_live past (pmac_number new))
  pub same_host : holder past (pmac_number new) ≡ holder past (pmac_number old)
  pub newer : IsNewer (number past (pmac_number old)) (number past (pmac_number new))
  pub turns : IsTrue (is_turning (leg past id) (is_redirected past id) (edge_port past (pmac_number old)))

-- an edge switch may take a host's frame that has crossed it alone
pub record IsTakenBy (past : List Entry) (id switch : ℕ) : Type 0 where
  pub of_host : IsSome (sender past id)
  pub alone : leg past id ≡ switch ∷ []
  pub takeable : IsTrue (is_takeable (beginning past id))

-- an address is granted that is not live, to a host that stands or has stood at its port; pod and position are those of one edge switch
pub record IsGrantable (plan : Plan) (past : List Entry) (x : Pmac) (host : ℕ) (there : EdgePort) : Type 0 where
  pub fresh : IsFalse (is_live past (pmac_number x))
  pub port : x.port ≡ there.port
  pub stood : IsTrue (has_stood plan past host there)
  pub edge : IsTrue (is_of_edge past x there.edge)

-- a link of the wiring, its first end the earlier one in label order, that is live or is failed
pub record IsLink (plan : Plan) (past : List Entry) (a b : ℕ) (failed : Bool) : Type 0 where
  pub ordered : a < b
  pub adjacent : IsTrue (is_adjacent plan a b)
  pub state : is_failed past a b ≡ failed

-- what the entries that are past must be like for an entry to follow them
abbrev pub Needs : Plan → List Entry → Entry → Type 0
Needs plan past (Sent id h f) = id ≡ begun past + 1
Needs plan past (Made id s f) = id ≡ begun past + 1
Needs plan past (Crossed id s) = IsTrue (is_flying past id)
Needs plan past (Redirected id old new) = IsTrue (is_flying past id) × GoesToNewer past id old new
Needs plan past (Copied id new) = IsTrue (is_flying past id) × IsTrue (goes_to_group past id) × (new ≡ begun past + 1)
Needs plan past (Arrived id h f) =
    IsTrue (is_flying past id) × MatchBool (goes_to_group past id) (ArrivesByGroup plan past id h.0 f) (ArrivesByAddress plan past id h.0 f)
Needs plan past (Taken id s) = IsTrue (is_flying past id) × IsTakenBy past id s.0
Needs plan past (Dropped id cause) = IsTrue (is_flying past id) × CauseShows plan past id cause
Needs plan past (Granted x h e p) = IsGrantable plan past x h.0 (at_port e.0 p)
Needs plan past (Freed x) = IsTrue (is_live past (pmac_number x))
Needs plan past (Registered x n) = IsTrue (is_live past (pmac_number x)) × (highest past < n)
Needs plan past (Moved h e p) = IsSome (slice_get plan.hosts h.0) × IsTrue (is_free plan past (at_port e.0 p))
Needs plan past (LinkDown x y) = IsLink plan past x.0 y.0 false
Needs plan past (LinkUp x y) = IsLink plan past x.0 y.0 true
Needs plan past (Restarted n) = n ≡ restarts past + 1
Needs plan past (Line n) = Unit {0}
Needs plan past (Skipped h skip) = Unit {0}
Needs plan past (Placed s place) = Unit {0}
Needs plan past (Settled n) = Unit {0}
Needs plan past (Unsettled n) = Unit {0}

-- each entry follows those that are past
abbrev pub RunTo : Plan → List Entry → Type 0
RunTo plan [] = Unit {0}
RunTo plan (entry ∷ past) = RunTo plan past × Needs plan past entry

-- a journal, with its oldest entry first, is a run of the lossy switch
abbrev pub Run : Plan → List Entry → Type 0
Run plan journal = RunTo plan (reverse journal)

-- A crossing goes on with a good leg, over a link that was live from the crossing before it.
abbrev pub CrossesWell : Plan → List Entry → Entry → Type 0
CrossesWell plan past (Crossed id s) = IsTrue (goes_well plan past id (leg past id) s.0)
CrossesWell plan past entry = Unit {0}

abbrev pub GoodTrailTo : Plan → List Entry → Type 0
GoodTrailTo plan [] = Unit {0}
GoodTrailTo plan (entry ∷ past) = GoodTrailTo plan past × CrossesWell plan past entry

abbrev pub GoodTrail : Plan → List Entry → Type 0
GoodTrail plan journal = GoodTrailTo plan (reverse journal)

-- how many frames of a group with this root arrived at this port
abbrev pub copies_at : Plan → List Entry → ℕ → EdgePort → ℕ
copies_at plan [] r there = 0
copies_at plan (Arrived id h f ∷ past) r there =
    if goes_to_group past id && ((root past id == r) && is_at (edge_port_of plan past h.0) there) then copies_at plan past r there + 1
    else copies_at plan past r there
copies_at plan (entry ∷ past) r there = copies_at plan past r there

-- how many frames of a group with this root arrived at this host since it moved last
abbrev pub copies_since_move : List Entry → ℕ → ℕ → ℕ
copies_since_move [] r host = 0
copies_since_move (Arrived id h f ∷ past) r host =
    if goes_to_group past id && ((root past id == r) && (h.0 == host)) then copies_since_move past r host + 1
    else copies_since_move past r host
copies_since_move (Moved h e p ∷ past) r host = if h.0 == host then 0 else copies_since_move past r host
copies_since_move (entry ∷ past) r host = copies_since_move past r host
