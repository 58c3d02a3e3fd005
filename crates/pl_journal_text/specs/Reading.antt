-- What it means to read a value from its text, where values have one spelling each.
use Rattle.std.specs.Prelude.{◌≡◌, ◌≢◌, ℕ, ◌<◌, List, ◌∷◌, ◌++◌, length, slice_index, Option, Some, None}

-- the value that is spelled so; none where no value that fits is
abbrev pub Reads : {A : Type 0} → (A → List ℕ) → (A → Type 0) → List ℕ → Option A → Type 0
Reads spelling Fits text (Some x) = Fits x × (text ≡ spelling x)
Reads spelling Fits text None = (x : _) → Fits x → text ≢ spelling x

-- a text without this byte
abbrev pub IsFree : ℕ → List ℕ → Type 0
IsFree byte text = (i : ℕ) → i < length text → slice_index text i ≢ byte

-- a text cut at its first blank
pub record IsCut (text before behind : List ℕ) : Type 0 where
  pub whole : text ≡ before ++ 32 ∷ behind
  pub first : IsFree 32 before
