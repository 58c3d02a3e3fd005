-- Executions that keep what holds in every run.
use Rattle.std.specs.Prelude.{Option}
use Rattle.pl_world.specs.declared.error.StepError.{StepError}
use Rattle.pl_world.specs.Worlds.{WorldView}
use Rattle.pl_fabric.specs.Executions.{Execution}
use Rattle.pl_law_invariant.specs.ControlInvariant.{ControlInvariant}

-- where it all holds before, it all holds then, whether the execution came to its end or a step was refused
abbrev pub KeepsAll : Execution → Type 0
KeepsAll execution = (old : WorldView) (end : Option StepError) (new : WorldView) → ControlInvariant old → execution old end new → ControlInvariant new
