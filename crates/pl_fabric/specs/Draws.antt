-- Steps that are drawn by numbers.
use Rattle.std.specs.Prelude.{ℕ, zero, suc, ◌+◌, ◌-◌, ◌%◌, length, Option, Some, None, slice_get}
use Rattle.pl_wiring.specs.Labels.{switch_count}
use Rattle.pl_draws.specs.Draws.{upper_half}
pub use Rattle.pl_draws.specs.Draws.{next_number}
use Rattle.pl_node.specs.HostInputs.{HostRule}
use Rattle.pl_node.specs.ManagerDuties.{ManagerRule}
use Rattle.pl_node.specs.SwitchInputs.{SwitchRule}
use Rattle.pl_world.specs.declared.event.Event.{Event}
use Rattle.pl_world.specs.declared.event.Event.TheVariants.{Deliver, Tick}
use Rattle.pl_world.specs.declared.event.QueueName.{QueueName}
use Rattle.pl_world.specs.Changes.{switch_no}
use Rattle.pl_world.specs.QueueOrder.{filled_queues}
use Rattle.pl_world.specs.Worlds.{WorldView}
use Rattle.pl_fabric.specs.Executions.{Execution, Makes, Stays, Then}

-- a queue with items, or the tick of a switch
abbrev pub delivery_or_tick : Option QueueName → ℕ → Event
delivery_or_tick (Some name) s = Deliver name
delivery_or_tick None s = Tick (switch_no s)

-- number i of what can be drawn: the heads of the queues with items, and behind them the ticks of all switches in label order
abbrev pub event_number : WorldView → ℕ → Event
event_number w i = delivery_or_tick (slice_get (filled_queues w) i) (i - length (filled_queues w))

-- what a number draws: its upper half, as far as there is something to draw
abbrev pub drawn : WorldView → ℕ → Event
drawn w x = event_number w (upper_half x % (length (filled_queues w) + switch_count w.plan.k))

-- so many steps, each drawn by the next number
abbrev pub Draws : SwitchRule → ManagerRule → HostRule → ℕ → ℕ → Execution
Draws switch manager host zero x = Stays
Draws switch manager host (suc n) x = λ old.
    Then (Makes switch manager host (drawn old (next_number x))) (Draws switch manager host n (next_number x)) old
