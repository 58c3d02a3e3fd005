-- Room for texts that are saved.
use Rattle.std.specs.Prelude.{ℕ, List, [], ◌∷◌, All, Option}
use Rattle.pl_shelf.specs.Capacity.{FitsBehind}
use Rattle.pl_shelf.specs.Held.{Held, created}
use Rattle.pl_output.specs.InTurn.{SavesOne}
use Rattle.pl_output.specs.Saved.{Saving}

-- the shelf promises that this text can be saved under its name
abbrev pub HasRoom : (List ℕ → Option ℕ) → (List ℕ → Held) → Saving → Type 0
HasRoom capacity held s = FitsBehind (capacity s.name) (created s.name (held s.name)) s.text

abbrev pub HaveRoom : (List ℕ → Option ℕ) → (List ℕ → Held) → List Saving → Type 0
HaveRoom capacity held savings = All (HasRoom capacity held) savings

-- each of them once those before it were saved
abbrev pub HaveRoomInTurn : (List ℕ → Option ℕ) → (List ℕ → Held) → List Saving → Type 0
HaveRoomInTurn capacity old [] = Unit {0}
HaveRoomInTurn capacity old (s ∷ savings) =
    HasRoom capacity old s × ((between : List ℕ → Held) → SavesOne old between s → HaveRoomInTurn capacity between savings)
