-- What a settling leaves.
use Rattle.std.proofs.Common.{◌≡◌, ◌<◌, ℕ, Option, Some, None, Result, Ok, Err, IfErr, IfOk, subst}
use Rattle.pl_node.specs.HostInputs.{HostRule}
use Rattle.pl_node.specs.ManagerDuties.{ManagerRule}
use Rattle.pl_node.specs.SwitchInputs.{SwitchRule}
use Rattle.pl_world.specs.declared.error.StepError.{StepError}
use Rattle.pl_world.specs.Worlds.{WorldView}
use Rattle.pl_fabric.specs.declared.settling.Settling.{Settling}
use Rattle.pl_fabric.specs.declared.settling.Settling.TheVariants.{Settled}
use Rattle.pl_fabric.specs.Executions.{EndsAs, UnlessMemory}
use Rattle.pl_fabric.specs.Settled.{IsSettled}
use Rattle.pl_fabric.specs.Settlings.{GoesRounds, IsSettlingAnswer, IsAtRest, Settles}
use Rattle.pl_fabric.proofs.Exports.{IsRun, unless_weaker}

-- the answer says how many rounds were made
settled_after : (new : WorldView) (made used : ℕ) (answer : Settling) → answer ≡ Settled used → IsSettlingAnswer new made answer → IsSettled new × (used ≡ made)
settled_after new made used answer is answered = subst (λ (a : Settling). IsSettlingAnswer new made a) is answered

module _ (switch : SwitchRule) (manager : ManagerRule) (host : HostRule) (asked : ℕ) (old new : WorldView) where
  pub settling_runs : (result : Result Settling StepError) → ((rounds : ℕ) (end : Option StepError) → GoesRounds switch manager host rounds old end new → IsRun switch manager host old new)
      → IfOk result (λ answer. Settles switch manager host asked old answer new)
      → IfErr result (λ reason. UnlessMemory reason (GoesRounds switch manager host asked old (Some reason) new))
      → EndsAs result (λ _. IsRun switch manager host old new)
  settling_runs (Ok answer) runs settles refused = runs settles.used None settles.rounds
  settling_runs (Err reason) runs settles refused =
      unless_weaker reason (GoesRounds switch manager host asked old (Some reason) new) (IsRun switch manager host old new) (runs asked (Some reason)) refused

  module _ (answer : Settling) (settles : Settles switch manager host asked old answer new) (used : ℕ) (is : answer ≡ Settled used) where
    pub is_settled_then : IsSettled new
    is_settled_then = (settled_after new settles.used used answer is settles.answered).0

    pub is_at_rest_then : used < asked → IsAtRest new
    is_at_rest_then fewer = settles.least (subst (λ (n : ℕ). n < asked) (settled_after new settles.used used answer is settles.answered).1 fewer)
