-- What is answered where a saved journal is checked.
use Rattle.std.specs.Prelude.{◌⊎◌, ℕ, List, [], ◌∷◌, ◌++◌, codes, decimal}
use Rattle.pl_shelf.specs.Held.{ShelfMoment, standard_output}
use Rattle.pl_wiring.specs.Plan.{IsPlan, Plan}
use Rattle.pl_verdict.specs.Verdicts.{IsBadLine, IsIllegal, IsLegal}
use Rattle.pl_inputs.specs.declared.status.Status.{Status}
use Rattle.pl_inputs.specs.Inputs.{HasPlan, IsLoaded, journal_limit}
use Rattle.pl_inputs.specs.Loads.{IsUnloaded, IsUnplanned}
use Rattle.pl_output.specs.Saved.{Saving}
use Rattle.pl_inputs.specs.declared.status.Status.TheVariants as status
use Rattle.pl_playing.specs.Outcomes.{EndsSaving, IsUntouched, ReadFails}

-- what is printed of a legal journal of so many entries
abbrev pub legal_line : ℕ → List ℕ
legal_line n = codes "legal " ++ (decimal n ++ codes "\n")

abbrev pub told_of : ℕ → List Saving
told_of n = record { name = standard_output; text = legal_line n } ∷ []

-- The first entry or line of a journal that is wrong is told; or memory ran out.
abbrev pub IsFaulty : Plan → List ℕ → Status → Type 0
IsFaulty plan text (status.NotLegal n) = IsIllegal plan text n
IsFaulty plan text (status.BadJournal n) = IsBadLine plan text n
IsFaulty plan text status.OutOfMemory = Unit {0}
IsFaulty plan text e = ⊥

-- a journal that was read is legal, and the number of its entries is printed; or it is faulty
abbrev pub EndsVerify : ShelfMoment → ShelfMoment → Plan → List ℕ → Status → Type 0
EndsVerify old new plan text e =
    ((n : ℕ) × IsLegal plan text n × EndsSaving old new (told_of n) e) ⊎ (IsFaulty plan text e × IsUntouched old new)

-- a file was not read, for this reason
abbrev pub IsNotRead : (Status → Type 0) → ShelfMoment → ShelfMoment → Status → Type 0
IsNotRead reason old new (status.ReadFault name) = reason (status.ReadFault name) × ReadFails old new
IsNotRead reason old new e = reason e × IsUntouched old new

-- The journal of this name was not read; or it was, and something came of it.
abbrev pub AnswersJournal : ShelfMoment → ShelfMoment → Plan → List ℕ → Status → Type 0
AnswersJournal old new plan journal e =
    IsNotRead (IsUnloaded old.held journal journal_limit) old new e
    ⊎ ((text : List ℕ) × IsLoaded old.held journal journal_limit text × EndsVerify old new plan text e)

-- The topology of the first name was not read; or it was, and this is answered of the journal of the second.
abbrev pub AnswersVerify : ShelfMoment → ShelfMoment → List ℕ → List ℕ → Status → Type 0
AnswersVerify old new topology journal e =
    IsNotRead (IsUnplanned old.held topology) old new e
    ⊎ ((plan : Plan) × IsPlan plan × HasPlan old.held topology plan × AnswersJournal old new plan journal e)
