-- What is said unless memory is wanting.
use Rattle.pl_script_rule.specs.declared.stop.Stop.{Stop}
use Rattle.pl_script_rule.specs.Scenes.{UnlessWanting}
use Rattle.pl_script_rule.specs.declared.stop.Stop.TheVariants.{ExpectFailed, Refused}
use Rattle.pl_world.specs.declared.error.StepError.TheVariants as error

-- a fact that holds after a stop, and what follows from it
pub unless_weaker : (stop : Stop) (P Q : Type 0) → (P → Q) → UnlessWanting stop P → UnlessWanting stop Q
unless_weaker ExpectFailed P Q f u = f u
unless_weaker (Refused error.StepsSpent) P Q f u = f u
unless_weaker (Refused error.JournalFull) P Q f u = f u
unless_weaker (Refused error.NoSuch) P Q f u = f u
unless_weaker (Refused error.Occupied) P Q f u = f u
unless_weaker (Refused error.AlreadySo) P Q f u = f u
unless_weaker (Refused error.NothingThere) P Q f u = f u
unless_weaker (Refused error.Memory) P Q f u = tt
