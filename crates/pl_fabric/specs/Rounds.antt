-- Sweeps over the queues of a fabric, and rounds.
use Rattle.std.specs.Prelude.{ℕ, ◌-◌, List, [], ◌∷◌, map, replicate, unwrap_or}
use Rattle.std.specs.List.{range_with_len}
use Rattle.pl_wiring.specs.Plan.{Plan}
use Rattle.pl_node.specs.HostInputs.{HostRule}
use Rattle.pl_node.specs.ManagerDuties.{ManagerRule}
use Rattle.pl_node.specs.SwitchInputs.{SwitchRule}
use Rattle.pl_world.specs.declared.event.Event.{Event}
use Rattle.pl_world.specs.declared.event.Event.TheVariants.{Deliver, Tick}
use Rattle.pl_world.specs.declared.event.QueueName.{QueueName}
use Rattle.pl_world.specs.Changes.{switch_no}
use Rattle.pl_world.specs.QueueOrder.{queue_at, queue_count, switch_numbers}
use Rattle.pl_world.specs.Worlds.{WorldView}
use Rattle.pl_schedule.specs.Looks.{queue_len}
use Rattle.pl_fabric.specs.Executions.{Execution, MakesAll, Stays, Then, Times}

-- the queues in queue order, from number `from` on
abbrev pub queues_from : Plan → ℕ → List QueueName
queues_from plan from = map (queue_at plan) (range_with_len from (queue_count plan - from))

-- how many items wait in a queue
abbrev pub waiting : WorldView → QueueName → ℕ
waiting w name = unwrap_or (queue_len w name) 0

-- a tick of each switch, in label order
abbrev pub ticks : Plan → List Event
ticks plan = map (λ s. Tick (switch_no s)) (switch_numbers plan)

module _ (switch : SwitchRule) (manager : ManagerRule) (host : HostRule) where
  -- a queue is visited: as many of its items are delivered as it holds then
  abbrev pub Visits : QueueName → Execution
  Visits name old = MakesAll switch manager host (replicate (waiting old name) (Deliver name)) old

  -- queues are visited one after the other
  abbrev pub VisitsAll : List QueueName → Execution
  VisitsAll [] = Stays
  VisitsAll (name ∷ names) = Then (Visits name) (VisitsAll names)

  -- A sweep visits all queues in queue order.
  abbrev pub Sweeps : Execution
  Sweeps old = VisitsAll (queues_from old.plan 0) old

  abbrev pub TicksAll : Execution
  TicksAll old = MakesAll switch manager host (ticks old.plan) old

  -- A round is a tick of each switch, and then four sweeps.
  abbrev pub GoesRound : Execution
  GoesRound = Then TicksAll (Times 4 Sweeps)
