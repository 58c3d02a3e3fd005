-- What is answered where a topology is checked.
use Rattle.std.specs.Prelude.{ℕ, List, [], ◌∷◌}
use Rattle.pl_shelf.specs.Held.{ShelfMoment, standard_output}
use Rattle.pl_wiring.specs.Plan.{Plan}
use Rattle.pl_inputs.specs.declared.status.Status.{Status}
use Rattle.pl_inputs.specs.Inputs.{HasPlan}
use Rattle.pl_inputs.specs.Loads.{IsUnplanned}
use Rattle.pl_output.specs.Saved.{Saving}
use Rattle.pl_output.specs.WiringText.{wiring_line}
use Rattle.pl_inputs.specs.declared.status.Status.TheVariants as status
use Rattle.pl_playing.specs.Outcomes.{IsUntouched, ReadFails, Saves, SavingFails}

-- what is printed of a wiring
abbrev pub line_of : Plan → List Saving
line_of plan = record { name = standard_output; text = wiring_line plan } ∷ []

-- what comes of a wiring that was read
abbrev pub EndsCheck : ShelfMoment → ShelfMoment → Plan → Status → Type 0
EndsCheck old new plan status.Done = Saves old new (line_of plan)
EndsCheck old new plan (status.WriteFault name) = SavingFails old new (line_of plan) name
EndsCheck old new plan status.OutOfMemory = IsUntouched old new
EndsCheck old new plan e = ⊥

-- The topology of this name was read, and the line of its wiring printed; or it was not read.
abbrev pub AnswersCheck : ShelfMoment → ShelfMoment → List ℕ → Status → Type 0
AnswersCheck old new topology status.Done = (plan : Plan) × HasPlan old.held topology plan × EndsCheck old new plan status.Done
AnswersCheck old new topology (status.WriteFault name) =
    (plan : Plan) × HasPlan old.held topology plan × EndsCheck old new plan (status.WriteFault name)
AnswersCheck old new topology (status.ReadFault name) = IsUnplanned old.held topology (status.ReadFault name) × ReadFails old new
AnswersCheck old new topology e = IsUnplanned old.held topology e × IsUntouched old new
