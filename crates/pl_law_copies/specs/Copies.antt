-- How many copies of a frame may still come to a port for hosts, and how many came there. The entries that are past have the newest first.
use Rattle.std.specs.Prelude.{ℕ, ◌==◌, ◌&&◌, ◌||◌, not, suc, Bool, true, false, if◌then◌else◌, List, [], ◌∷◌}
use Rattle.pl_frame.specs.Ethernet.{destination_of}
use Rattle.pl_wiring.specs.declared.label.Label.{Label}
use Rattle.pl_wiring.specs.declared.label.Label.TheVariants.{Aggregation, Core, Edge}
use Rattle.pl_wiring.specs.declared.link.Peer.{Peer}
use Rattle.pl_wiring.specs.declared.link.Peer.TheVariants.{HostPort, Switch}
use Rattle.pl_wiring.specs.Labels.{label_of}
use Rattle.pl_wiring.specs.Peers.{peer_of}
use Rattle.pl_wiring.specs.Plan.{Plan}
use Rattle.pl_layouts.specs.Memberships.{is_group}
use Rattle.pl_journal.specs.declared.entry.Entry.{Entry}
use Rattle.pl_journal.specs.declared.entry.Entry.TheVariants.{Arrived}
use Rattle.pl_journal.specs.Flights.{root}
use Rattle.pl_journal.specs.Places.{EdgePort, at_port, is_at, same_edge_port, edge_port_of}
use Rattle.pl_world.specs.Worlds.{WorldView}
use Rattle.pl_law_counts.specs.Counting.{ComesOnceTo, Targets}

-- an edge switch of this pod
abbrev pub is_edge_of : ℕ → Label → Bool
is_edge_of p (Edge q i) = p == q
is_edge_of p (Aggregation q j) = false
is_edge_of p (Core j m) = false

-- Whether a frame that goes from one switch to another may come to an edge switch: on its way up to each, on its way down to those below.
abbrev pub leads_to : Label → Label → Bool → Label → Bool
leads_to (Edge p i) to itself edge = true
leads_to (Aggregation p j) (Edge q i) itself edge = itself
leads_to (Aggregation p j) (Aggregation q i) itself edge = true
leads_to (Aggregation p j) (Core i m) itself edge = true
leads_to (Core j m) (Edge q i) itself edge = itself
leads_to (Core j m) (Aggregation p i) itself edge = is_edge_of p edge
leads_to (Core j m) (Core i n) itself edge = true

-- whether a frame of a group that leaves by a port, with this at its other end, may come to a port for hosts
abbrev pub may_come : ℕ → ℕ → ℕ → Peer → EdgePort → Bool
may_come k s port HostPort there = same_edge_port (at_port s port) there
may_come k s port (Switch t q) there = leads_to (label_of k s) (label_of k t.0) (t.0 == there.edge) (label_of k there.edge)

-- a frame to one host is not followed on its way
abbrev pub may_come_by : Plan → ℕ → ℕ → EdgePort → List ℕ → Bool
may_come_by plan s port there frame = not (is_group (destination_of frame)) || may_come plan.k s port (peer_of plan s port) there

-- how many frames of this root arrived at a port
abbrev pub came_to : Plan → List Entry → ℕ → EdgePort → ℕ
came_to plan [] r there = 0
came_to plan (Arrived id h frame ∷ past) r there =
    if (root past id == r) && is_at (edge_port_of plan past h.0) there then suc (came_to plan past r there) else came_to plan past r there
came_to plan (entry ∷ past) r there = came_to plan past r there

-- each port for hosts as a target
abbrev pub to_ports : Targets EdgePort
to_ports = record { may_come = may_come_by; came = came_to }

-- At each port, of each root, the frames that came and that may still come are at most one.
abbrev pub ComesOnce : WorldView → Type 0
ComesOnce w = ComesOnceTo to_ports w
