-- What a script has come to, and what is done to it.
use Rattle.std.specs.Prelude.{◌≡◌, ℕ, zero, suc, ◌+◌, List, Option, Some, None, Result, MatchResult, length, option_map, replicate, slice_index_or, slice_set}
use Rattle.pl_wiring.specs.Plan.{Plan}
use Rattle.pl_journal.specs.declared.entry.Entry.TheVariants.{Line}
use Rattle.pl_world.specs.declared.error.StepError.{StepError}
use Rattle.pl_world.specs.declared.error.StepError.TheVariants.{Memory}
use Rattle.pl_world.specs.declared.limits.Limits.{Limits}
use Rattle.pl_world.specs.Booting.{booted}
use Rattle.pl_world.specs.Changes.{noted}
use Rattle.pl_world.specs.Worlds.{WorldView}
use Rattle.pl_fabric.specs.Executions.{Execution}
use Rattle.pl_script_rule.specs.declared.stop.Stop.{Stop}
use Rattle.pl_script_rule.specs.declared.stop.Stop.TheVariants.{Refused}

-- the world, and for each host how many of its records were asked for
pub record Scene : Type 0 where
  pub world : WorldView
  pub asked : List ℕ

-- no line was done yet
abbrev pub first_scene : Plan → Limits → Scene
first_scene plan limits = record { world = booted plan limits; asked = replicate (length plan.hosts) 0 }

abbrev pub asked_of : Scene → ℕ → ℕ
asked_of scene h = slice_index_or scene.asked h 0

-- one more record of a host was asked for
abbrev pub asked_more : Scene → ℕ → Scene
asked_more scene h = record scene { asked = slice_set scene.asked h (asked_of scene h + 1) }

-- a line begins
abbrev pub begun : Scene → ℕ → Scene
begun scene number = record scene { world = noted scene.world (Line number) }

-- what was come to before, why it was stopped, if it was, and what was come to then
abbrev pub SceneExecution : Type 1
SceneExecution = Scene → Option Stop → Scene → Type 0

-- nothing is done
abbrev pub SceneStays : SceneExecution
SceneStays old end new = (end ≡ None) × (new ≡ old)

-- behind what was stopped nothing is done
abbrev pub GoesOnFrom : SceneExecution → Option Stop → Scene → Option Stop → Scene → Type 0
GoesOnFrom next None between end new = next between end new
GoesOnFrom next (Some stop) between end new = (end ≡ Some stop) × (new ≡ between)

-- one thing, and behind it another
abbrev pub Before : SceneExecution → SceneExecution → SceneExecution
Before first next old end new =
    (stop : Option Stop) × (between : Scene) × first old stop between × GoesOnFrom next stop between end new

-- a thing so many times
abbrev pub Often : ℕ → SceneExecution → SceneExecution
Often zero doing = SceneStays
Often (suc n) doing = Before doing (Often n doing)

-- an execution of the world
abbrev pub OfWorld : Execution → SceneExecution
OfWorld execution old end new =
    (stop : Option StepError) × execution old.world stop new.world × (end ≡ option_map Refused stop) × (new.asked ≡ old.asked)

-- a fact that holds after a stop; after want of memory nothing is said
abbrev pub UnlessWanting : Stop → Type 0 → Type 0
UnlessWanting (Refused Memory) P = Unit {0}
UnlessWanting stop P = P

-- How a call ended that does such a thing.
abbrev pub Ends : {T : Type 0} → Result T Stop → (Option Stop → Type 0) → Type 0
Ends result P = MatchResult result (λ done. P None) (λ stop. UnlessWanting stop (P (Some stop)))
