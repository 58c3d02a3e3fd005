-- One switch alone.
use Rattle.std.proofs.Common.{◌≡◌, ℕ, ◌<◌, true, List, [], ◌∷◌, length, refl, arith}
use Rattle.pl_wiring.specs.declared.label.SwitchNo.{SwitchNo}
use Rattle.pl_journal.specs.Flights.{falls, rises_and_falls}
use Rattle.pl_past_tables.specs.Legs.{numbers}

pub one_falls : (k : ℕ) (switches : List SwitchNo) → length switches < 2 → true ≡ falls k (numbers switches)
one_falls k [] short = refl
one_falls k (a ∷ []) short = refl
one_falls k (a ∷ b ∷ switches) short = absurd (omega arith)

pub one_rises_and_falls : (k : ℕ) (switches : List SwitchNo) → length switches < 2 → true ≡ rises_and_falls k (numbers switches)
one_rises_and_falls k [] short = refl
one_rises_and_falls k (a ∷ []) short = refl
one_rises_and_falls k (a ∷ b ∷ switches) short = absurd (omega arith)
