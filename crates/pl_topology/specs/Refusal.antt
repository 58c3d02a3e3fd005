-- A reading gives a value or the first refusal.
use Rattle.std.specs.Prelude.{◌≡◌, Bool, true, false, List, [], ◌∷◌, ◌++◌, Option, Some, None, Result, Ok, Err, ⊤}
use Rattle.pl_topology.specs.declared.error.TopologyError.{TopologyError}
use Rattle.pl_topology.specs.declared.error.TopologyError.TheVariants.{Memory}

infixl 10 ◌>>=◌
abbrev pub ◌>>=◌ : {A B : Type 0} → Result A TopologyError → (A → Result B TopologyError) → Result B TopologyError
(Ok x) >>= f = f x
(Err e) >>= f = Err e

-- the value, which has to be there
abbrev pub or_refused : {A : Type 0} → Option A → TopologyError → Result A TopologyError
or_refused (Some x) e = Ok x
or_refused None e = Err e

abbrev pub refused_if : Bool → TopologyError → Result ⊤ TopologyError
refused_if true e = Err e
refused_if false e = Ok tt

-- what is checked of each in order
abbrev pub each : {A : Type 0} → (A → Result ⊤ TopologyError) → List A → Result ⊤ TopologyError
each check [] = Ok tt
each check (x ∷ xs) = check x >>= λ _. each check xs

-- what is checked of each in order beside those before it
abbrev pub each_beside : {A : Type 0} → (List A → A → Result ⊤ TopologyError) → List A → List A → Result ⊤ TopologyError
each_beside check before [] = Ok tt
each_beside check before (x ∷ xs) = check before x >>= λ _. each_beside check (before ++ x ∷ []) xs

-- what is read of each in order beside what was read before it
abbrev pub all_beside : {A B : Type 0} → (List B → A → Result B TopologyError) → List B → List A → Result (List B) TopologyError
all_beside read before [] = Ok before
all_beside read before (x ∷ xs) = read before x >>= λ y. all_beside read (before ++ y ∷ []) xs

-- What a function returned, seen by view, is what the reading gives, unless memory ran out.
abbrev pub ReadingFails : {B : Type 0} → TopologyError → Result B TopologyError → Type 0
ReadingFails Memory reading = ⊤
ReadingFails e reading = reading ≡ Err e

abbrev pub ReadingGives : {A B : Type 0} → (A → B) → Result A TopologyError → Result B TopologyError → Type 0
ReadingGives view (Ok x) reading = reading ≡ Ok (view x)
ReadingGives view (Err e) reading = ReadingFails e reading
