-- How many frames of one root are on their way up, and how many wait in one queue.
use Rattle.std.specs.Prelude.{◌≤◌, ◌<◌, ℕ, ◌+◌, ◌/◌, ◌%◌, ◌&&◌, nat_lt, Bool, false, List, reverse}
use Rattle.pl_wiring.specs.declared.link.Peer.{Peer}
use Rattle.pl_wiring.specs.declared.link.Peer.TheVariants.{HostPort, Switch}
use Rattle.pl_wiring.specs.Labels.{label_of}
use Rattle.pl_wiring.specs.Peers.{peer_of}
use Rattle.pl_wiring.specs.Plan.{Plan}
use Rattle.pl_journal.specs.declared.entry.Entry.{Entry}
use Rattle.pl_world.specs.Changes.{out_of}
use Rattle.pl_world.specs.Worlds.{WorldView}
use Rattle.pl_law_counts.specs.Counting.{count_all, count_in, has_root}
use Rattle.pl_journal.specs.Flights.{label_level}

-- what is at the other end of a port of switch s is a switch of a higher level
abbrev pub is_above : ℕ → ℕ → Peer → Bool
is_above k s HostPort = false
is_above k s (Switch t q) = nat_lt (label_level (label_of k s)) (label_level (label_of k t.0))

-- a frame of this root in the queue out of a port that leads up, by the port's place among all ports
abbrev pub goes_up : Plan → List Entry → ℕ → ℕ → ℕ → List ℕ → Bool
goes_up plan past r n id frame = has_root past r id frame && is_above plan.k (n / plan.k) (peer_of plan (n / plan.k) (n % plan.k))

-- how many frames of this root wait on their way up, at hosts and at switches
abbrev pub rising : WorldView → ℕ → ℕ
rising w r = let past = reverse w.journal in count_all (λ h. has_root past r) w.from_hosts + count_all (goes_up w.plan past r) w.out

-- Of the frames of one root at most one is on its way up, and at most one waits in the queue out of each port.
pub record AreAlone (w : WorldView) : Type 0 where
  pub up : (r : ℕ) → rising w r ≤ 1
  pub waiting : (s port r : ℕ) → port < w.plan.k → count_in (has_root (reverse w.journal) r) (out_of w s port) ≤ 1
