-- What is answered for a script that was played before a watcher's eyes.
use Rattle.std.proofs.Common.{◌≡◌, ℕ, Option, None, Some, Result, Ok, Err, IfOk, IfErr, refl, sym, subst}
use Rattle.pl_inputs.specs.declared.status.Status.{Status}
use Rattle.pl_inputs.specs.declared.status.Status.TheVariants as status
use Rattle.pl_inputs.specs.Inputs.{Inputs}
use Rattle.pl_player.specs.declared.player.Stopped.{Stopped}
use Rattle.pl_player.specs.Endings.{EndsLines}
use Rattle.pl_script_rule.specs.declared.stop.Stop.{Stop}
use Rattle.pl_script_rule.specs.declared.stop.Stop.TheVariants.{ExpectFailed, Refused}
use Rattle.pl_script_rule.specs.Scenes.{Scene, UnlessWanting}
use Rattle.pl_script_rule.proofs.Exports.{unless_weaker}
use Rattle.pl_world.specs.declared.error.StepError.TheVariants as error
use Rattle.pl_world.specs.Worlds.{WorldView}
use Rattle.pl_playing.specs.Outcomes.{Course, outcome}
use Rattle.pl_playing.specs.Watched.{IsPlayedBefore, LedTo}

module _ (leads : Course) (i : Inputs) (scene : Scene) (w : WorldView) (same : w ≡ scene.world) where
  led_to : (end : Option (ℕ × Stop)) → leads i end scene → LedTo leads i w (outcome end)
  led_to end plays = record { end = end; scene = scene; led = plays; world = same; answered = refl }

  stopped_before : (line : ℕ) (stop : Stop) → UnlessWanting stop (leads i (Some (line, stop)) scene) → IsPlayedBefore leads i w (outcome (Some (line, stop)))
  stopped_before line ExpectFailed u = led_to (Some (line, ExpectFailed)) u
  stopped_before line (Refused error.StepsSpent) u = led_to (Some (line, Refused error.StepsSpent)) u
  stopped_before line (Refused error.JournalFull) u = led_to (Some (line, Refused error.JournalFull)) u
  stopped_before line (Refused error.NoSuch) u = led_to (Some (line, Refused error.NoSuch)) u
  stopped_before line (Refused error.Occupied) u = led_to (Some (line, Refused error.Occupied)) u
  stopped_before line (Refused error.AlreadySo) u = led_to (Some (line, Refused error.AlreadySo)) u
  stopped_before line (Refused error.NothingThere) u = led_to (Some (line, Refused error.NothingThere)) u
  stopped_before line (Refused error.Memory) u = tt

  pub ended_before : {T : Type 0} (r : Result T Stopped) (e : Status) → IfOk r (λ done. e ≡ status.Done) → IfErr r (λ s. e ≡ outcome (Some (s.line, s.stop))) →
      (P : Option (ℕ × Stop) → Type 0) → ((end : Option (ℕ × Stop)) → P end → leads i end scene) → EndsLines r P → IsPlayedBefore leads i w e
  ended_before (Ok done) e is none P plays does = subst (λ x. IsPlayedBefore leads i w x) (sym is) (led_to None (plays None does))
  ended_before (Err s) e none is P plays does =
      subst (λ x. IsPlayedBefore leads i w x) (sym is) (stopped_before s.line s.stop
      (unless_weaker s.stop (P (Some (s.line, s.stop))) (leads i (Some (s.line, s.stop)) scene) (plays (Some (s.line, s.stop))) does))
