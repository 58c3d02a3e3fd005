-- What names hold after texts were saved under them, one after the other.
use Rattle.std.specs.Prelude.{◌≡◌, ◌≢◌, ◌⊎◌, ◌<◌, ℕ, List, [], ◌∷◌, ◌++◌, length, take, All}
use Rattle.pl_shelf.specs.Held.{Held, created, with_end}

-- a text, and the name under which it is saved
pub record Saving : Type 0 where
  pub name : List ℕ
  pub text : List ℕ

-- what a name holds once a text was saved under it: that text alone, and on standard output the text behind what was there
abbrev pub once_saved : List ℕ → Held → List ℕ → Held
once_saved name held text = with_end (created name held) text

abbrev pub IsSavedWhole : (List ℕ → Held) → (List ℕ → Held) → Saving → Type 0
IsSavedWhole old new s = new s.name ≡ once_saved s.name (old s.name) s.text

-- the name is as it was, or a proper front of its text was saved
abbrev pub IsBroken : (List ℕ → Held) → (List ℕ → Held) → Saving → Type 0
IsBroken old new s =
    (new s.name ≡ old s.name)
    ⊎ ((n : ℕ) × (n < length s.text) × (new s.name ≡ once_saved s.name (old s.name) (take n s.text)))

-- no other name changed
abbrev pub OthersStay : (List ℕ → Held) → (List ℕ → Held) → List Saving → Type 0
OthersStay old new savings = (q : List ℕ) → All (λ s. q ≢ s.name) savings → new q ≡ old q

-- each text was saved whole
pub record AreSaved (old new : List ℕ → Held) (savings : List Saving) : Type 0 where
  pub whole : All (IsSavedWhole old new) savings
  pub others : OthersStay old new savings

-- the texts before this name's are whole, its own is broken off, and those behind it were not begun
pub record BreaksOff (old new : List ℕ → Held) (savings : List Saving) (name : List ℕ) : Type 0 where
  pub before : List Saving
  pub broken : Saving
  pub behind : List Saving
  pub order : savings ≡ before ++ broken ∷ behind
  pub named : broken.name ≡ name
  pub whole : All (IsSavedWhole old new) before
  pub cut : IsBroken old new broken
  pub others : OthersStay old new (before ++ broken ∷ [])
