-- Where frames wait, and what a journal says of their way and of their bytes. The entries that are past have the newest first.
use Rattle.std.specs.Prelude.{◌≡◌, ◌≤◌, ◌<◌, ℕ, ◌/◌, ◌%◌, ◌==◌, ◌||◌, Bool, suc, true, if◌then◌else◌, List, [], ◌∷◌, Option, None, Some, reverse}
use Rattle.std.specs.List.{AllByRecursion}
use Rattle.pl_frame.specs.Ethernet.{destination_of}
use Rattle.pl_wiring.specs.declared.label.SwitchNo.{SwitchNo}
use Rattle.pl_wiring.specs.declared.link.Peer.TheVariants.{Switch}
use Rattle.pl_wiring.specs.Labels.{label_of}
use Rattle.pl_wiring.specs.Peers.{peer_of}
use Rattle.pl_wiring.specs.Plan.{Plan}
use Rattle.pl_journal.specs.declared.entry.Entry.{Entry}
use Rattle.pl_journal.specs.declared.entry.Entry.TheVariants.{Arrived, Copied}
use Rattle.pl_journal.specs.Flights.{beginning, first_of, trail}
use Rattle.pl_journal.specs.Lossy.{mac_of_host}
use Rattle.pl_layouts.specs.Memberships.{is_group}
use Rattle.pl_queues.specs.Queues.{items_at}
use Rattle.pl_world.specs.declared.item.Item.{Item}
use Rattle.pl_world.specs.declared.item.Item.TheVariants.{Control, Data}
use Rattle.pl_world.specs.Changes.{is_address_of}
use Rattle.pl_world.specs.Worlds.{WorldView}
use Rattle.pl_bridge_rule.specs.Tree.{is_tree_link}

-- a link at this port is one of the tree
abbrev pub LeadsOverTree : Plan → ℕ → ℕ → Type 0
LeadsOverTree plan s port = (t : SwitchNo) (q : ℕ) → peer_of plan s port ≡ Switch t q → is_tree_link (label_of plan.k s) (label_of plan.k t.0) ≡ true

-- how many copies were made of a frame, and not of its copies
abbrev pub copies_made : List Entry → ℕ → ℕ
copies_made [] id = 0
copies_made (Copied g c ∷ past) id = if g == id then suc (copies_made past id) else copies_made past id
copies_made (entry ∷ past) id = copies_made past id

-- A frame that has begun, with the bytes that it began with; where it crossed a switch, this was the last one, and else it was not copied.
pub record IsUnderWay (past : List Entry) (many : ℕ) (last : Option ℕ) (id : ℕ) (frame : List ℕ) : Type 0 where
  pub begun : id ≤ many
  pub bytes : frame ≡ beginning past id
  pub crossed : first_of (trail past id) ≡ last
  pub single : last ≡ None → copies_made past id ≡ 0

-- what waits at a host has crossed no switch
abbrev pub WaitsAtHost : List Entry → ℕ → Item → Type 0
WaitsAtHost past many (Control frame) = Unit {0}
WaitsAtHost past many (Data id frame) = IsUnderWay past many None id frame

-- What waits behind a port, by the port's place among all ports, has just crossed that switch; and a link at this port is one of the tree.
abbrev pub WaitsAtPort : Plan → List Entry → ℕ → ℕ → Item → Type 0
WaitsAtPort plan past many n (Control frame) = Unit {0}
WaitsAtPort plan past many n (Data id frame) = LeadsOverTree plan (n / plan.k) (n % plan.k) × IsUnderWay past many (Some (n / plan.k)) id frame

-- each switch is joined to the next one by a link of the tree
abbrev pub AreAdjacentInTree : ℕ → List ℕ → Type 0
AreAdjacentInTree k [] = Unit {0}
AreAdjacentInTree k (s ∷ []) = Unit {0}
AreAdjacentInTree k (s ∷ t ∷ switches) = (is_tree_link (label_of k s) (label_of k t) ≡ true) × AreAdjacentInTree k (t ∷ switches)

-- a frame to a group, or to this host's own address
abbrev pub is_for_host : Plan → ℕ → List ℕ → Bool
is_for_host plan h frame = is_group (destination_of frame) || is_address_of (mac_of_host plan h) (destination_of frame)

-- A frame arrives with the bytes with which it, or the frame that it is a copy of, was sent, and at a host that it is for.
pub record ArrivesAsSent (plan : Plan) (past : List Entry) (id h : ℕ) (frame : List ℕ) : Type 0 where
  pub bytes : frame ≡ beginning past id
  pub host : is_for_host plan h frame ≡ true

-- so whatever arrived did
abbrev pub ArriveAsSent : Plan → List Entry → Type 0
ArriveAsSent plan [] = Unit {0}
ArriveAsSent plan (Arrived id h frame ∷ past) = ArrivesAsSent plan past id h.0 frame × ArriveAsSent plan past
ArriveAsSent plan (entry ∷ past) = ArriveAsSent plan past

pub record Travel (plan : Plan) (past : List Entry) (from_hosts out : List (List Item)) (many : ℕ) : Type 0 where
  pub new : (id : ℕ) → many < id → trail past id ≡ []
  pub uncopied : (id : ℕ) → many < id → copies_made past id ≡ 0
  pub at_hosts : (h : ℕ) → AllByRecursion (WaitsAtHost past many) (items_at from_hosts h)
  pub at_ports : (n : ℕ) → AllByRecursion (WaitsAtPort plan past many n) (items_at out n)
  pub adjacent : (id : ℕ) → AreAdjacentInTree plan.k (trail past id)
  pub arrived : ArriveAsSent plan past

-- So it is in a world.
abbrev pub TravelsOnTree : WorldView → Type 0
TravelsOnTree w = Travel w.plan (reverse w.journal) w.from_hosts w.out w.begun

-- how often a switch stands in a line of crossings
abbrev pub times_on : ℕ → List ℕ → ℕ
times_on x [] = 0
times_on x (s ∷ switches) = if s == x then suc (times_on x switches) else times_on x switches
