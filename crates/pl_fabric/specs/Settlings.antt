-- Rounds until a fabric is settled.
use Rattle.std.specs.Prelude.{◌≡◌, ◌<◌, ◌≤◌, ℕ, zero, suc, None}
use Rattle.pl_node.specs.HostInputs.{HostRule}
use Rattle.pl_node.specs.ManagerDuties.{ManagerRule}
use Rattle.pl_node.specs.SwitchInputs.{SwitchRule}
use Rattle.pl_world.specs.Pending.{pending}
use Rattle.pl_world.specs.QueueOrder.{next_queue}
use Rattle.pl_world.specs.Worlds.{WorldView}
use Rattle.pl_fabric.specs.declared.settling.Settling.{Settling}
use Rattle.pl_fabric.specs.declared.settling.Settling.TheVariants.{NotSettled, Settled}
use Rattle.pl_fabric.specs.Executions.{Execution, Stays, Then}
use Rattle.pl_fabric.specs.Rounds.{GoesRound}
use Rattle.pl_fabric.specs.Settled.{IsSettled}

-- it is settled, and no queue has items
pub record IsAtRest (w : WorldView) : Type 0 where
  pub settled : IsSettled w
  pub empty : next_queue w 0 ≡ None

-- an execution so often, before each time of which the world is not at rest
abbrev pub GoesUntil : (WorldView → Type 0) → Execution → ℕ → Execution
GoesUntil Rest execution zero = Stays
GoesUntil Rest execution (suc n) = λ old end new. (Rest old → ⊥) × Then execution (GoesUntil Rest execution n) old end new

-- what is answered of a fabric at the end, after so many rounds
abbrev pub IsSettlingAnswer : WorldView → ℕ → Settling → Type 0
IsSettlingAnswer w used (Settled rounds) = IsSettled w × (rounds ≡ used)
IsSettlingAnswer w used (NotSettled waiting) = (IsSettled w → ⊥) × (waiting ≡ pending w)

module _ (switch : SwitchRule) (manager : ManagerRule) (host : HostRule) where
  -- so many rounds, before each of which the fabric is not at rest
  abbrev pub GoesRounds : ℕ → Execution
  GoesRounds = GoesUntil IsAtRest (GoesRound switch manager host)

  -- The least number of rounds is made, at most as many as asked, after which the fabric is at rest.
  pub record Settles (asked : ℕ) (old : WorldView) (answer : Settling) (new : WorldView) : Type 0 where
    pub used : ℕ
    pub rounds : GoesRounds used old None new
    pub within : used ≤ asked
    pub least : used < asked → IsAtRest new
    pub answered : IsSettlingAnswer new used answer
