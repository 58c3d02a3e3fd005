-- A script that is played before a watcher's eyes.
use Rattle.std.specs.Prelude.{◌≡◌, ℕ, Option}
use Rattle.pl_inputs.specs.declared.status.Status.{Status}
use Rattle.pl_inputs.specs.declared.status.Status.TheVariants as status
use Rattle.pl_inputs.specs.Inputs.{Inputs}
use Rattle.pl_script_rule.specs.declared.stop.Stop.{Stop}
use Rattle.pl_script_rule.specs.Scenes.{Scene}
use Rattle.pl_world.specs.Worlds.{WorldView}
use Rattle.pl_playing.specs.Outcomes.{Course, outcome}

-- The script led to this world, where it ended or was stopped, and that is answered.
pub record LedTo (leads : Course) (i : Inputs) (w : WorldView) (e : Status) : Type 0 where
  pub end : Option (ℕ × Stop)
  pub scene : Scene
  pub led : leads i end scene
  pub world : w ≡ scene.world
  pub answered : e ≡ outcome end

-- After want of memory nothing is said.
abbrev pub IsPlayedBefore : Course → Inputs → WorldView → Status → Type 0
IsPlayedBefore leads i w status.OutOfMemory = Unit {0}
IsPlayedBefore leads i w e = LedTo leads i w e
