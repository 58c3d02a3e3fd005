-- The first drop among acts, and the parts of a step that drop nothing.
use Rattle.std.proofs.Common.{◌≡◌, ℕ, List, [], ◌∷◌, ◌++◌, None, refl}
use Rattle.std.specs.List.{AllByRecursion}
use Rattle.pl_node.specs.declared.acts.Act.{Act}
use Rattle.pl_node.specs.declared.acts.Act.TheVariants.{Control, Drop, Grant as GrantAct, Make, Tell}
use Rattle.pl_switch_rule.specs.DropCauses.{first_drop}
use Rattle.pl_switch_rule.proofs.QuietActs.{AreQuiet}

-- an act that neither drops the frame nor makes another one
abbrev pub GoesOn : Act → Type 0
GoesOn (Drop cause) = ⊥
GoesOn (Make frame) = ⊥
GoesOn act = Unit {0}

abbrev pub AllGoOn : List Act → Type 0
AllGoOn acts = AllByRecursion GoesOn acts

-- what follows such acts decides
pub first_behind : (xs ys : List Act) → AllGoOn xs → first_drop (xs ++ ys) ≡ first_drop ys
first_behind [] ys on = refl
first_behind (Drop cause ∷ xs) ys on = absurd on.0
first_behind (Make frame ∷ xs) ys on = absurd on.0
first_behind (a ∷ xs) ys on = first_behind xs ys on.1

-- what precedes acts that drop nothing decides
pub first_before : (xs ys : List Act) → first_drop ys ≡ None → first_drop (xs ++ ys) ≡ first_drop xs
first_before [] ys none = none
first_before (Drop cause ∷ xs) ys none = refl
first_before (Make frame ∷ xs) ys none = refl
first_before (a ∷ xs) ys none = first_before xs ys none

pub quiet_go_on : (k : ℕ) (acts : List Act) → AreQuiet k acts → AllGoOn acts
quiet_go_on k [] quiet = tt
quiet_go_on k (Control port frame ∷ acts) quiet = (tt, quiet_go_on k acts quiet.1)
quiet_go_on k (Tell told ∷ acts) quiet = (tt, quiet_go_on k acts quiet.1)
quiet_go_on k (GrantAct pmac amac ∷ acts) quiet = (tt, quiet_go_on k acts quiet.1)
quiet_go_on k (a ∷ acts) quiet = absurd quiet.0
