-- What comes of a script that is not played to its end.
use Rattle.std.proofs.Common.{◌≡◌, ℕ, Bool, true, false, List, Some, refl, ap, ◌∙◌}
use Rattle.pl_inputs.specs.declared.status.Status.{Status}
use Rattle.pl_inputs.specs.Inputs.{Inputs}
use Rattle.pl_output.specs.Saved.{Saving}
use Rattle.pl_script_rule.specs.declared.stop.Stop.{Stop}
use Rattle.pl_script_rule.specs.declared.stop.Stop.TheVariants.{ExpectFailed, Refused}
use Rattle.pl_inputs.specs.declared.status.Status.TheVariants as status
use Rattle.pl_world.specs.declared.error.StepError.TheVariants as error
use Rattle.pl_playing.specs.Outcomes.{Comes, Course, IsPlayed, IsStopped, IsUntouched, Play, outcome}
use Rattle.pl_shelf.specs.Held.{ShelfMoment}
use Rattle.pl_playing.specs.Plays.{IsUnplayed}

-- the answers that a stopped script has
abbrev is_of_stop : Status → Bool
is_of_stop (status.ExpectFailed line) = true
is_of_stop (status.Refused line reason) = true
is_of_stop (status.StepsSpent line) = true
is_of_stop (status.JournalFull line) = true
is_of_stop status.OutOfMemory = true
is_of_stop _ = false

outcome_is : (stopped : ℕ × Stop) → is_of_stop (outcome (Some stopped)) ≡ true
outcome_is (line, ExpectFailed) = refl
outcome_is (line, Refused error.StepsSpent) = refl
outcome_is (line, Refused error.JournalFull) = refl
outcome_is (line, Refused error.NoSuch) = refl
outcome_is (line, Refused error.Occupied) = refl
outcome_is (line, Refused error.AlreadySo) = refl
outcome_is (line, Refused error.NothingThere) = refl
outcome_is (line, Refused error.Memory) = refl

not_both : (b : Bool) → b ≡ false → b ≡ true → ⊥
not_both b is was = cc

pub no_stop : (leads : Course) (i : Inputs) (e : Status) → is_of_stop e ≡ false → IsStopped leads i e → ⊥
no_stop leads i e other s = not_both (is_of_stop e) other (ap is_of_stop s.answered ∙ outcome_is s.stopped)

module _ (play : Play) where
  -- a script that was not played to its end
  pub unplayed_comes : (old new : ShelfMoment) → IsUntouched old new → (i : Inputs) (known : IsPlayed play i → Type 0)
      (texts : IsPlayed play i → List Saving) (e : Status) → IsUnplayed play.leads i e → Comes play old new i known texts e
  unplayed_comes old new stays i known texts status.Done u = absurd (no_stop play.leads i status.Done refl u)
  unplayed_comes old new stays i known texts (status.WriteFault name) u = absurd (no_stop play.leads i (status.WriteFault name) refl u)
  unplayed_comes old new stays i known texts status.OutOfMemory u = stays
  unplayed_comes old new stays i known texts status.Usage u = (u, stays)
  unplayed_comes old new stays i known texts (status.NotLegal entry) u = (u, stays)
  unplayed_comes old new stays i known texts (status.BadJournal line) u = (u, stays)
  unplayed_comes old new stays i known texts (status.ReadFault name) u = (u, stays)
  unplayed_comes old new stays i known texts (status.TooLong name) u = (u, stays)
  unplayed_comes old new stays i known texts (status.BadTopology reason) u = (u, stays)
  unplayed_comes old new stays i known texts (status.BadScript line reason) u = (u, stays)
  unplayed_comes old new stays i known texts (status.BadCapture host e at) u = (u, stays)
  unplayed_comes old new stays i known texts (status.BadSection host e) u = (u, stays)
  unplayed_comes old new stays i known texts (status.ExpectFailed line) u = (u, stays)
  unplayed_comes old new stays i known texts (status.Refused line reason) u = (u, stays)
  unplayed_comes old new stays i known texts (status.StepsSpent line) u = (u, stays)
  unplayed_comes old new stays i known texts (status.JournalFull line) u = (u, stays)
