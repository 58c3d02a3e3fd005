-- What is done to a world step by step, up to its end, or up to a step that is refused.
use Rattle.std.specs.Prelude.{◌≡◌, ℕ, zero, suc, List, [], ◌∷◌, Option, Some, None, Result, MatchOption, MatchResult}
use Rattle.pl_node.specs.HostInputs.{HostRule}
use Rattle.pl_node.specs.ManagerDuties.{ManagerRule}
use Rattle.pl_node.specs.SwitchInputs.{SwitchRule}
use Rattle.pl_world.specs.declared.error.StepError.{StepError}
use Rattle.pl_world.specs.declared.error.StepError.TheVariants.{Memory}
use Rattle.pl_world.specs.declared.event.Event.{Event}
use Rattle.pl_world.specs.Refusals.{refusal}
use Rattle.pl_world.specs.WorldRule.{WorldStep}
use Rattle.pl_world.specs.Worlds.{WorldView}

-- the world before, why a step was refused, if one was, and the world then
abbrev pub Execution : Type 1
Execution = WorldView → Option StepError → WorldView → Type 0

-- nothing is done
abbrev pub Stays : Execution
Stays old end new = (end ≡ None) × (new ≡ old)

-- what is done behind an execution that came to its end; behind a step that was refused nothing is done
abbrev pub GoesOnBehind : Execution → Option StepError → WorldView → Option StepError → WorldView → Type 0
GoesOnBehind next None between end new = next between end new
GoesOnBehind next (Some reason) between end new = (end ≡ Some reason) × (new ≡ between)

-- one execution, and behind it another
abbrev pub Then : Execution → Execution → Execution
Then first next old end new =
    (stop : Option StepError) × (between : WorldView) × first old stop between × GoesOnBehind next stop between end new

-- an execution so many times
abbrev pub Times : ℕ → Execution → Execution
Times zero execution = Stays
Times (suc n) execution = Then execution (Times n execution)

-- an event is a step; or it is refused, and nothing changes
abbrev pub Makes : SwitchRule → ManagerRule → HostRule → Event → Execution
Makes switch manager host event old end new = MatchOption (refusal old event)
    ((end ≡ None) × WorldStep switch manager host old event new)
    (λ reason. (end ≡ Some reason) × (new ≡ old))

-- events in order, up to the first that is refused
abbrev pub MakesAll : SwitchRule → ManagerRule → HostRule → List Event → Execution
MakesAll switch manager host [] = Stays
MakesAll switch manager host (event ∷ events) = Then (Makes switch manager host event) (MakesAll switch manager host events)

-- a fact that holds after a refusal; after want of memory nothing is said
abbrev pub UnlessMemory : StepError → Type 0 → Type 0
UnlessMemory Memory P = Unit {0}
UnlessMemory reason P = P

-- How a call ended that makes steps: at the end of what it is to do, or at a step that was refused.
abbrev pub EndsAs : {T : Type 0} → Result T StepError → (Option StepError → Type 0) → Type 0
EndsAs result P = MatchResult result (λ done. P None) (λ reason. UnlessMemory reason (P (Some reason)))
