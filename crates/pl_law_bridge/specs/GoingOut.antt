-- How many frames of a root go out of a port for hosts in a run, and how many wait there.
use Rattle.std.specs.Prelude.{ℕ, ◌+◌, ◌==◌, ◌&&◌, nat_lt, if◌then◌else◌, List, [], ◌∷◌, reverse}
use Rattle.pl_wiring.specs.Peers.{peer_of}
use Rattle.pl_journal.specs.declared.entry.Entry.{Entry}
use Rattle.pl_journal.specs.Flights.{root}
use Rattle.pl_journal.specs.Places.{EdgePort, at_port, is_host_port, same_edge_port}
use Rattle.pl_node.specs.HostInputs.{HostRule}
use Rattle.pl_node.specs.ManagerDuties.{ManagerRule}
use Rattle.pl_node.specs.SwitchInputs.{SwitchRule}
use Rattle.pl_world.specs.declared.event.Event.{Event}
use Rattle.pl_world.specs.declared.event.Event.TheVariants as event
use Rattle.pl_world.specs.declared.event.QueueName.TheVariants as queue
use Rattle.pl_world.specs.declared.item.Item.{Item}
use Rattle.pl_world.specs.declared.item.Item.TheVariants.{Control, Data}
use Rattle.pl_world.specs.Changes.{out_of}
use Rattle.pl_world.specs.Runs.{Moment, WorldRun}
use Rattle.pl_world.specs.Runs.Moment.{Mark, Step}
use Rattle.pl_world.specs.Worlds.{WorldView}
use Rattle.pl_law_counts.specs.Counting.{count_in, has_root}

-- 1 where the head of a queue is a frame of this root
abbrev pub heads : List Entry → ℕ → List Item → ℕ
heads past r [] = 0
heads past r (Control frame ∷ items) = 0
heads past r (Data id frame ∷ items) = if root past id == r then 1 else 0

-- in an event: the head of the queue out of that port is delivered, to whomever it may be
abbrev pub goes_out_by : WorldView → Event → ℕ → EdgePort → ℕ
goes_out_by w (event.Deliver (queue.Port s port)) r there =
    if is_host_port (peer_of w.plan s.0 port) && same_edge_port (at_port s.0 port) there then heads (reverse w.journal) r (out_of w s.0 port) else 0
goes_out_by w e r there = 0

abbrev pub goes_out_at : WorldView → Moment → ℕ → EdgePort → ℕ
goes_out_at w (Step e) r there = goes_out_by w e r there
goes_out_at w (Mark entry) r there = 0

-- in all moments of a run
abbrev pub times_gone_out : (switch : SwitchRule) (manager : ManagerRule) (host : HostRule) (old : WorldView) (moments : List Moment) (new : WorldView) →
    WorldRun switch manager host old moments new → ℕ → EdgePort → ℕ
times_gone_out switch manager host old [] new run r there = 0
times_gone_out switch manager host old (moment ∷ moments) new run r there =
    goes_out_at old moment r there + times_gone_out switch manager host run.0 moments new run.2 r there

-- how many frames of a root wait behind a port, where it is one for hosts
abbrev pub waiting_at : WorldView → ℕ → EdgePort → ℕ
waiting_at w r there =
    if nat_lt there.port w.plan.k && is_host_port (peer_of w.plan there.edge there.port) then count_in (has_root (reverse w.journal) r) (out_of w there.edge there.port) else 0
