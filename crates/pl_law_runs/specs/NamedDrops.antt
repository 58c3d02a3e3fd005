-- Frames that a switch drops by its rule, and not on a failed link.
use Rattle.std.specs.Prelude.{ℕ, Bool, true, false, filter, map, List, [], ◌∷◌, Option, Some, None}
use Rattle.pl_journal.specs.declared.cause.Cause.{Cause}
use Rattle.pl_journal.specs.declared.cause.Cause.TheVariants.{LinkDown}

abbrev pub is_of_rule : Cause → Bool
is_of_rule LinkDown = false
is_of_rule cause = true

abbrev pub by_rule : List (ℕ × Cause) → List (ℕ × Cause)
by_rule drops = filter (λ d. is_of_rule d.1) drops

abbrev pub one_or_none : Option ℕ → List ℕ
one_or_none None = []
one_or_none (Some id) = id ∷ []

-- these frames are dropped for the cause, if there is one
abbrev pub all_for : List ℕ → Option Cause → List (ℕ × Cause)
all_for ids None = []
all_for ids (Some cause) = map (λ id. (id, cause)) ids
