-- What a journal shows of the cause for which a frame ended. The entries that are past have the newest first.
use Rattle.std.specs.Prelude.{◌≡◌, ℕ, ◌==◌, ◌&&◌, ◌⊎◌, not, Bool, false, List, length, Option, Some, None, is_none, IsTrue}
use Rattle.std.specs.Bool.{IsFalse}
use Rattle.pl_frame.specs.Ethernet.{destination_of}
use Rattle.pl_wiring.specs.Plan.{Plan}
use Rattle.pl_journal.specs.declared.entry.Entry.{Entry}
use Rattle.pl_journal.specs.declared.cause.Cause.{Cause}
use Rattle.pl_journal.specs.declared.cause.Cause.TheVariants.{NotPlaced, NoNextHop, NoAddress, HostGone, LinkDown, Lost, Spent, BadArp, NoMember}
use Rattle.pl_layouts.specs.Memberships.{is_group, group_of, flood}
use Rattle.pl_layouts.specs.Frames.{is_arp, packet_in}
use Rattle.pl_journal.specs.Places.{EdgePort, are_live_there, is_at, is_live, edge_port, edge_port_of, is_spent, has_failed_link}
use Rattle.pl_journal.specs.Flights.{address, addressee, beginning, came_in, first_of, is_empty, sender, has_moved_since, trail}

abbrev pub has_crossed : List Entry → ℕ → Bool
has_crossed past id = not (is_empty (trail past id))

abbrev pub goes_to_group : List Entry → ℕ → Bool
goes_to_group past id = is_group (destination_of (beginning past id))

abbrev pub is_routed : Option ℕ → Bool
is_routed None = false
is_routed (Some n) = not (n == flood)

-- the host that a frame is for does not stand at the port where the frame's address was granted
abbrev pub has_left : Plan → List Entry → Option ℕ → Option EdgePort → Bool
has_left plan past (Some host) (Some there) = not (is_at (edge_port_of plan past host) there)
has_left plan past _ _ = false

-- a frame that crossed nothing, of a host that moved since
abbrev pub is_left_behind : List Entry → ℕ → Option ℕ → Bool
is_left_behind past id None = false
is_left_behind past id (Some host) = is_empty (trail past id) && has_moved_since past id host

abbrev pub touches_failed_link : Plan → List Entry → Option ℕ → Bool
touches_failed_link plan past None = false
touches_failed_link plan past (Some s) = has_failed_link plan past s

abbrev pub came_in_at_spent_port : List Entry → Option EdgePort → Bool
came_in_at_spent_port past None = false
came_in_at_spent_port past (Some there) = is_spent past there && are_live_there (is_live past) past there

-- type 0x0806 with a payload that is no ARP packet
abbrev pub is_bad_arp : List ℕ → Bool
is_bad_arp frame = is_arp frame && is_none (packet_in frame)

abbrev pub CauseShows : Plan → List Entry → ℕ → Cause → Type 0
-- the frame has crossed a switch
CauseShows plan past id NotPlaced = IsTrue (has_crossed past id)
CauseShows plan past id NoNextHop = IsTrue (has_crossed past id)
CauseShows plan past id Lost = IsTrue (has_crossed past id)
-- its present address was never granted so far, or was freed since
CauseShows plan past id NoAddress = IsFalse (is_live past (address past id))
-- a frame of a group needs no more; another one's host has left, or its sender has, with the frame still in its queue
CauseShows plan past id HostGone =
    IsTrue (goes_to_group past id) ⊎ (IsTrue (has_left plan past (addressee past id) (edge_port past (address past id)))
    ⊎ IsTrue (is_left_behind past id (sender past id)))
-- a link of the switch that it crossed last is failed
CauseShows plan past id LinkDown = IsTrue (touches_failed_link plan past (first_of (trail past id)))
-- the port where it came in has given the largest vmid, and each of its addresses is live
CauseShows plan past id Spent = IsTrue (came_in_at_spent_port past (came_in plan past id))
-- it crossed one switch, and its ARP packet cannot be read
CauseShows plan past id BadArp = (length (trail past id) ≡ 1) × IsTrue (is_bad_arp (beginning past id))
-- its destination is a routed group
CauseShows plan past id NoMember = IsTrue (is_routed (group_of (destination_of (beginning past id))))
