-- How much a name may hold, by what a shelf promises.
use Rattle.std.specs.Prelude.{ℕ, ◌+◌, ◌≤◌, List, length, Option, Some}
use Rattle.pl_shelf.specs.Held.{Held, holds}

-- the shelf promises that what the name holds can be read
abbrev pub IsReadable : Option ℕ → Held → Type 0
IsReadable (Some capacity) (holds bytes) = Unit {0}
IsReadable _ _ = ⊥

-- that these bytes can be added behind what it holds
abbrev pub FitsBehind : Option ℕ → Held → List ℕ → Type 0
FitsBehind (Some capacity) (holds first) bytes = length first + length bytes ≤ capacity
FitsBehind _ _ bytes = ⊥

-- the name holds as much as was promised, if anything was
abbrev pub IsFull : Option ℕ → Held → Type 0
IsFull (Some capacity) (holds bytes) = capacity ≤ length bytes
IsFull _ _ = Unit {0}
