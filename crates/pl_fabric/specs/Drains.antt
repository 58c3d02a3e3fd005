-- Sweeps until no queue has items.
use Rattle.std.specs.Prelude.{◌≡◌, ◌<◌, ◌≤◌, ℕ, map, None}
use Rattle.std.specs.List.{range_with_len, sum_by}
use Rattle.pl_node.specs.HostInputs.{HostRule}
use Rattle.pl_node.specs.ManagerDuties.{ManagerRule}
use Rattle.pl_node.specs.SwitchInputs.{SwitchRule}
use Rattle.pl_world.specs.QueueOrder.{next_queue, queue_at, queue_count}
use Rattle.pl_world.specs.Worlds.{WorldView}
use Rattle.pl_fabric.specs.declared.settling.Settling.{Settling}
use Rattle.pl_fabric.specs.declared.settling.Settling.TheVariants.{NotSettled, Settled}
use Rattle.pl_fabric.specs.Executions.{Execution}
use Rattle.pl_fabric.specs.Rounds.{Sweeps, waiting}
use Rattle.pl_fabric.specs.Settlings.{GoesUntil}

-- no queue has items
abbrev pub IsDrained : WorldView → Type 0
IsDrained w = next_queue w 0 ≡ None

-- how many items wait in all queues
abbrev pub all_waiting : WorldView → ℕ
all_waiting w = sum_by (waiting w) (map (queue_at w.plan) (range_with_len 0 (queue_count w.plan)))

-- what is answered of a world at the end, after so many sweeps
abbrev pub IsDrainAnswer : WorldView → ℕ → Settling → Type 0
IsDrainAnswer w used (Settled sweeps) = IsDrained w × (sweeps ≡ used)
IsDrainAnswer w used (NotSettled items) = (IsDrained w → ⊥) × (items ≡ all_waiting w)

module _ (switch : SwitchRule) (manager : ManagerRule) (host : HostRule) where
  -- so many sweeps, before each of which a queue has items
  abbrev pub GoesSweeps : ℕ → Execution
  GoesSweeps = GoesUntil IsDrained (Sweeps switch manager host)

  -- The least number of sweeps is made, at most as many as asked, after which no queue has items.
  pub record Drains (asked : ℕ) (old : WorldView) (answer : Settling) (new : WorldView) : Type 0 where
    pub used : ℕ
    pub sweeps : GoesSweeps used old None new
    pub within : used ≤ asked
    pub least : used < asked → IsDrained new
    pub answered : IsDrainAnswer new used answer
