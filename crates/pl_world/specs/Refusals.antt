-- When a step is refused.
use Rattle.std.specs.Prelude.{ℕ, ◌==◌, ◌&&◌, ◌||◌, not, nat_le, nat_lt, Bool, true, false, if◌then◌else◌, List, length, sum_by, Option, Some, None}
use Rattle.pl_wiring.specs.declared.link.Link.{Link}
use Rattle.pl_wiring.specs.Labels.{switch_count}
use Rattle.pl_wiring.specs.LiveLinks.{is_live}
use Rattle.pl_wiring.specs.Peers.{peer_of}
use Rattle.pl_wiring.specs.Plan.{Plan}
use Rattle.pl_journal.specs.declared.entry.Entry.{Entry}
use Rattle.pl_journal.specs.declared.entry.Entry.TheVariants.{Arrived, Made, Sent}
use Rattle.pl_world.specs.declared.event.Event.{Event}
use Rattle.pl_world.specs.declared.event.Event.TheVariants as event
use Rattle.pl_world.specs.declared.event.QueueName.{QueueName}
use Rattle.pl_world.specs.declared.event.QueueName.TheVariants as queue
use Rattle.pl_journal.specs.Places.{are_alike, is_host_port}
use Rattle.pl_world.specs.declared.error.StepError.{StepError}
use Rattle.pl_world.specs.declared.error.StepError.TheVariants.{AlreadySo, JournalFull, NoSuch, NothingThere, Occupied, StepsSpent}
use Rattle.pl_world.specs.declared.limits.Limits.{Limits}
use Rattle.pl_world.specs.Changes.{host_at, out_of}
use Rattle.pl_world.specs.LinksAndMoves.{link_between}
use Rattle.pl_queues.specs.Queues.{has_items, items_at}
use Rattle.pl_world.specs.Worlds.{WorldView}

abbrev pub frame_bytes : Entry → ℕ
frame_bytes (Sent id host frame) = length frame
frame_bytes (Made id switch frame) = length frame
frame_bytes (Arrived id host frame) = length frame
frame_bytes entry = 0

-- a journal has as many entries, or its frames as many bytes, as they may
abbrev pub is_journal_full : Limits → List Entry → Bool
is_journal_full limits journal = nat_le limits.entries (length journal) || nat_le limits.bytes (sum_by frame_bytes journal)

abbrev pub is_full : WorldView → Bool
is_full w = is_journal_full w.limits w.journal

abbrev pub has_host : Plan → ℕ → Bool
has_host plan h = nat_lt h (length plan.hosts)

abbrev pub has_switch : Plan → ℕ → Bool
has_switch plan s = nat_lt s (switch_count plan.k)

abbrev pub has_port : Plan → ℕ → ℕ → Bool
has_port plan s port = has_switch plan s && nat_lt port plan.k

-- a port for hosts, and one that has a link
abbrev pub is_for_hosts : Plan → ℕ → ℕ → Bool
is_for_hosts plan s port = has_port plan s port && is_host_port (peer_of plan s port)

abbrev pub is_linked : Plan → ℕ → ℕ → Bool
is_linked plan s port = has_port plan s port && not (is_host_port (peer_of plan s port))

abbrev pub has_queue : Plan → QueueName → Bool
has_queue plan (queue.FromHost h) = has_host plan h.0
has_queue plan (queue.Port s port) = has_port plan s.0 port
has_queue plan (queue.ToManager s) = has_switch plan s.0
has_queue plan (queue.FromManager s) = has_switch plan s.0

-- whether a queue has items
abbrev pub is_filled : WorldView → QueueName → Bool
is_filled w (queue.FromHost h) = has_items (items_at w.from_hosts h.0)
is_filled w (queue.Port s port) = has_items (out_of w s.0 port)
is_filled w (queue.ToManager s) = has_items (items_at w.to_manager s.0)
is_filled w (queue.FromManager s) = has_items (items_at w.from_manager s.0)

-- what is not there cannot be named
abbrev pub unless_there : Bool → Option StepError
unless_there there = if there then None else Some NoSuch

-- a queue is there and has items, or not
abbrev pub refusal_of_queue : Bool → Bool → Option StepError
refusal_of_queue there filled = if not there then Some NoSuch else if filled then None else Some NothingThere

-- a link that fails is live before, and one that is repaired is not
abbrev pub refusal_of_link : WorldView → Bool → Option Link → Option StepError
refusal_of_link w live None = Some NoSuch
refusal_of_link w live (Some link) = if are_alike (is_live w.links link) live then Some AlreadySo else None

abbrev pub refusal_of_place : ℕ → Option ℕ → Option StepError
refusal_of_place h None = None
refusal_of_place h (Some other) = if other == h then Some AlreadySo else Some Occupied

abbrev pub refusal_of_move : WorldView → ℕ → ℕ → ℕ → Option StepError
refusal_of_move w h s port =
    if has_host w.plan h && is_for_hosts w.plan s port then refusal_of_place h (host_at w s port) else Some NoSuch

abbrev pub refusal_of_event : WorldView → Event → Option StepError
refusal_of_event w (event.Deliver name) = refusal_of_queue (has_queue w.plan name) (is_filled w name)
refusal_of_event w (event.Tick s) = unless_there (has_switch w.plan s.0)
refusal_of_event w (event.Fail a b) = refusal_of_link w false (link_between w.plan a.0 b.0)
refusal_of_event w (event.Repair a b) = refusal_of_link w true (link_between w.plan a.0 b.0)
refusal_of_event w (event.Lose s port) = refusal_of_queue (is_linked w.plan s.0 port) (has_items (out_of w s.0 port))
refusal_of_event w (event.Move h s port) = refusal_of_move w h.0 s.0 port
refusal_of_event w (event.Start h) = unless_there (has_host w.plan h.0)
refusal_of_event w (event.Play h frame original raw) = unless_there (has_host w.plan h.0)
refusal_of_event w (event.Retry h) = unless_there (has_host w.plan h.0)
refusal_of_event w (event.Join h group) = unless_there (has_host w.plan h.0)
refusal_of_event w (event.Leave h group) = unless_there (has_host w.plan h.0)
refusal_of_event w event.Restart = None

-- the first reason that holds; none where the step is made
abbrev pub refusal : WorldView → Event → Option StepError
refusal w happens =
    if nat_le w.limits.steps w.steps then Some StepsSpent
    else if is_full w then Some JournalFull
    else refusal_of_event w happens
