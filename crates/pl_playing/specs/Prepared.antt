-- That there is room for what is saved, and that no call failed.
use Rattle.std.specs.Prelude.{ℕ, List, Option}
use Rattle.pl_shelf.specs.Held.{Held}
use Rattle.pl_inputs.specs.declared.status.Status.{Status}
use Rattle.pl_inputs.specs.Inputs.{Inputs}
use Rattle.pl_output.specs.Room.{HaveRoom}
use Rattle.pl_output.specs.Saved.{Saving}
use Rattle.pl_inputs.specs.declared.status.Status.TheVariants as status
use Rattle.pl_playing.specs.Outcomes.{IsPlayed, Play}

-- the answer names no call that failed
abbrev pub NamesNoFault : Status → Type 0
NamesNoFault (status.ReadFault name) = ⊥
NamesNoFault (status.WriteFault name) = ⊥
NamesNoFault e = Unit {0}

-- there is room for what is saved of these inputs, once they were played
abbrev pub HasRoomFor : (play : Play) → (List ℕ → Option ℕ) → (List ℕ → Held) → (i : Inputs) → (IsPlayed play i → List Saving) → Type 0
HasRoomFor play capacity held i texts = (is : IsPlayed play i) → HaveRoom capacity held (texts is)
