-- Executions that leave no choice.
use Rattle.std.specs.Prelude.{◌≡◌, Option}
use Rattle.pl_world.specs.declared.error.StepError.{StepError}
use Rattle.pl_world.specs.Worlds.{WorldView}
use Rattle.pl_fabric.specs.Executions.{Execution}

-- from this world it comes to one end, and to one world
abbrev pub GoesOneWayFrom : Execution → WorldView → Type 0
GoesOneWayFrom execution old = (end stop : Option StepError) (one other : WorldView) → execution old end one → execution old stop other →
    (end ≡ stop) × (one ≡ other)

-- and so from each
abbrev pub IsOneWay : Execution → Type 0
IsOneWay execution = (old : WorldView) → GoesOneWayFrom execution old
