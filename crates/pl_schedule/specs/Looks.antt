-- What is asked of a world from outside.
use Rattle.std.specs.Prelude.{ℕ, ◌==◌, if◌then◌else◌, length, Option, Some, None}
use Rattle.pl_world.specs.declared.error.StepError.{StepError}
use Rattle.pl_world.specs.declared.error.StepError.TheVariants.{NoSuch, NothingThere}
use Rattle.pl_world.specs.declared.event.QueueName.{QueueName}
use Rattle.pl_world.specs.declared.event.QueueName.TheVariants as queue
use Rattle.pl_world.specs.Changes.{out_of}
use Rattle.pl_queues.specs.Queues.{items_at}
use Rattle.pl_world.specs.Refusals.{has_host, has_port, has_switch}
use Rattle.pl_world.specs.Worlds.{WorldView}

-- how many items wait in a queue, if the wiring has it
abbrev pub queue_len : WorldView → QueueName → Option ℕ
queue_len w (queue.FromHost h) = if has_host w.plan h.0 then Some (length (items_at w.from_hosts h.0)) else None
queue_len w (queue.Port s port) = if has_port w.plan s.0 port then Some (length (out_of w s.0 port)) else None
queue_len w (queue.ToManager s) = if has_switch w.plan s.0 then Some (length (items_at w.to_manager s.0)) else None
queue_len w (queue.FromManager s) = if has_switch w.plan s.0 then Some (length (items_at w.from_manager s.0)) else None

-- why nothing can be delivered from a queue of this length
abbrev pub refusal_of_len : Option ℕ → Option StepError
refusal_of_len None = Some NoSuch
refusal_of_len (Some many) = if many == 0 then Some NothingThere else None
