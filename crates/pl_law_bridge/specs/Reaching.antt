-- How many frames of one root reached a target, and how many may still reach it: a switch that they cross, a port for hosts where they arrive, or one
-- out of which they go. The entries that are past have the newest first.
use Rattle.std.specs.Prelude.{ℕ, ◌+◌, ◌==◌, ◌&&◌, suc, Bool, false, if◌then◌else◌, List, [], ◌∷◌, Option}
use Rattle.pl_wiring.specs.declared.link.Peer.{Peer}
use Rattle.pl_wiring.specs.declared.link.Peer.TheVariants.{HostPort, Switch}
use Rattle.pl_wiring.specs.Labels.{label_of}
use Rattle.pl_wiring.specs.Peers.{peer_of}
use Rattle.pl_wiring.specs.Plan.{Plan}
use Rattle.pl_journal.specs.declared.entry.Entry.{Entry}
use Rattle.pl_journal.specs.declared.entry.Entry.TheVariants.{Arrived, Crossed, Moved}
use Rattle.pl_journal.specs.Flights.{root}
use Rattle.pl_journal.specs.Places.{EdgePort, at_port, edge_port_of, is_at, same_edge_port}
use Rattle.pl_world.specs.Worlds.{WorldView}
use Rattle.pl_bridge_rule.specs.Tree.{leads_to}
use Rattle.pl_law_counts.specs.Counting.{ComesOnceTo, Targets}

pub data Target : Type 0 where
  Crossing : ℕ → Target
  Arrival : EdgePort → Target
  Departure : EdgePort → Target

-- the switch that is crossed, or to which the port belongs
abbrev pub switch_at : Target → ℕ
switch_at (Crossing x) = x
switch_at (Arrival there) = there.edge
switch_at (Departure there) = there.edge

abbrev pub is_port_at : ℕ → ℕ → Target → Bool
is_port_at s port (Crossing x) = false
is_port_at s port (Arrival there) = same_edge_port (at_port s port) there
is_port_at s port (Departure there) = same_edge_port (at_port s port) there

-- whether a frame that leaves by a port, with this at its other end, may reach a target
abbrev pub may_reach : ℕ → ℕ → ℕ → Peer → Target → Bool
may_reach k s port HostPort target = is_port_at s port target
may_reach k s port (Switch t q) target = leads_to (label_of k s) (label_of k t.0) (label_of k (switch_at target))

abbrev pub may_reach_by : Plan → ℕ → ℕ → Target → Bool
may_reach_by plan s port target = may_reach plan.k s port (peer_of plan s port) target

abbrev pub is_crossing_of : ℕ → Target → Bool
is_crossing_of s (Crossing x) = s == x
is_crossing_of s (Arrival there) = false
is_crossing_of s (Departure there) = false

abbrev pub is_arrival_at : Option EdgePort → Target → Bool
is_arrival_at from (Crossing x) = false
is_arrival_at from (Arrival there) = is_at from there
is_arrival_at from (Departure there) = false

-- how often frames of this root reached a target, as the journal says it; of what goes out of ports it does not speak
abbrev pub times_reached : Plan → List Entry → ℕ → Target → ℕ
times_reached plan [] r target = 0
times_reached plan (Crossed id s ∷ past) r target =
    if (root past id == r) && is_crossing_of s.0 target then suc (times_reached plan past r target) else times_reached plan past r target
times_reached plan (Arrived id h frame ∷ past) r target =
    if (root past id == r) && is_arrival_at (edge_port_of plan past h.0) target then suc (times_reached plan past r target) else times_reached plan past r target
times_reached plan (entry ∷ past) r target = times_reached plan past r target

-- how many frames of this root a host got since it moved last
abbrev pub got_since_move : List Entry → ℕ → ℕ → ℕ
got_since_move [] r h = 0
got_since_move (Arrived id g frame ∷ past) r h = if (root past id == r) && (g.0 == h) then suc (got_since_move past r h) else got_since_move past r h
got_since_move (Moved g e p ∷ past) r h = if g.0 == h then 0 else got_since_move past r h
got_since_move (entry ∷ past) r h = got_since_move past r h

-- What is counted, with what is left unsaid: so many frames of a root reached a target that the journal does not speak of. One frame may reach what another may.
abbrev pub may_reach_with : Plan → ℕ → ℕ → Target → List ℕ → Bool
may_reach_with plan s port target frame = may_reach_by plan s port target

abbrev pub to_targets : (ℕ → Target → ℕ) → Targets Target
to_targets unsaid = record { may_come = may_reach_with; came = λ plan past r target. times_reached plan past r target + unsaid r target }

-- nothing is left unsaid
abbrev pub nothing_unsaid : ℕ → Target → ℕ
nothing_unsaid r target = 0

-- Of each root the frames that reached a target and that may still reach it are at most one.
abbrev pub ReachesOnce : WorldView → Type 0
ReachesOnce w = ComesOnceTo (to_targets nothing_unsaid) w
