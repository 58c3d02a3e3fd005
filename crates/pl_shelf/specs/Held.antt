-- What a shelf holds by name, and how its calls change that.
use Rattle.std.specs.Prelude.{◌≡◌, ◌≢◌, ℕ, ◌-◌, ◌<◌, ◌≤◌, List, [], ◌∷◌, ◌++◌, length, take, drop, codes, if◌then◌else◌}
use Rattle.std.specs.Str.{bytes_eq}

-- what a shelf tells of one name: nothing, that it is absent, or the bytes that it holds
pub data Held : Type 0 where
  unknown : Held
  absent : Held
  holds : List ℕ → Held

-- what a shelf tells at a moment: what each name holds, and how many of its calls failed so far
pub record ShelfMoment : Type 0 where
  pub held : List ℕ → Held
  pub read_faults : ℕ
  pub write_faults : ℕ

-- the name of standard output
abbrev pub standard_output : List ℕ
standard_output = codes "-"

-- each name holds what it held
abbrev pub Same : (List ℕ → Held) → (List ℕ → Held) → Type 0
Same old new = (q : List ℕ) → new q ≡ old q

-- the name holds this now, and every other name what it held
pub record Changes (old new : List ℕ → Held) (name : List ℕ) (to : Held) : Type 0 where
  pub named : new name ≡ to
  pub others : (q : List ℕ) → q ≢ name → new q ≡ old q

-- with these bytes at its end; what is absent stays so unless there are some
abbrev pub with_end : Held → List ℕ → Held
with_end unknown more = unknown
with_end absent [] = absent
with_end absent (b ∷ more) = holds (b ∷ more)
with_end (holds bs) more = holds (bs ++ more)

-- there, with nothing in it
abbrev pub emptied : Held → Held
emptied unknown = unknown
emptied absent = holds []
emptied (holds bs) = holds []

-- a name after its creation, from what it held
abbrev pub created : List ℕ → Held → Held
created name held = if bytes_eq name standard_output then held else emptied held

-- a read of n bytes from an offset: they are at the buffer's front, and none with room is the end
pub record IsPart (bs : List ℕ) (at n : ℕ) (buf : List ℕ) : Type 0 where
  pub bytes : take n buf ≡ take n (drop at bs)
  pub within : n ≤ length bs - at
  pub end : n ≡ 0 → 0 < length buf → length bs ≤ at

-- the same of any name: what is absent cannot be read
abbrev pub IsRead : Held → ℕ → ℕ → List ℕ → Type 0
IsRead unknown at n buf = Unit {0}
IsRead absent at n buf = ⊥
IsRead (holds bs) at n buf = IsPart bs at n buf

-- these bytes are all that is held
abbrev pub HoldsExactly : Held → List ℕ → Type 0
HoldsExactly unknown found = Unit {0}
HoldsExactly absent found = ⊥
HoldsExactly (holds bs) found = found ≡ bs

-- more bytes are held than the limit
abbrev pub IsLonger : Held → ℕ → Type 0
IsLonger unknown limit = Unit {0}
IsLonger absent limit = ⊥
IsLonger (holds bs) limit = limit < length bs

-- a proper front of the bytes stands at the end of what the name held at first, and no other name changed
abbrev pub IsCutOff : (List ℕ → Held) → (List ℕ → Held) → List ℕ → Held → List ℕ → Type 0
IsCutOff old new name first bytes =
    (n : ℕ) × (n < length bytes) × Changes old new name (with_end first (take n bytes))
