-- The addresses that acts grant, in order.
use Rattle.std.proofs.Common.{◌≡◌, ◌⊎◌, List, [], ◌∷◌, ◌++◌, false, refl, ap, subst, inl, inr}
use Rattle.std.specs.List.{AllByRecursion}
use Rattle.pl_frame.specs.declared.address.Mac.{Mac}
use Rattle.pl_pmac.specs.declared.pmac.Pmac.{Pmac}
use Rattle.pl_node.specs.declared.acts.Act.{Act}
use Rattle.pl_node.specs.declared.acts.Act.TheVariants as act
use Rattle.pl_node.specs.SwitchViews.{SwitchView}
use Rattle.pl_switch_rule.specs.Granting.{granted}
use Rattle.pl_law_addresses.specs.EdgeAddresses.{IsHeldFor, is_live}
use Rattle.pl_law_addresses.proofs.Exports.{AreSilent}

-- an address is granted to a host
pub record Giving : Type 0 where
  pub pmac : Pmac
  pub mac : Mac

abbrev pub gives : Pmac → Mac → Giving
gives x mac = record { pmac = x; mac = mac }

abbrev pub givings : List Act → List Giving
givings [] = []
givings (act.Grant x mac ∷ acts) = gives x mac ∷ givings acts
givings (a ∷ acts) = givings acts

-- it is one of them
abbrev pub IsOneOf : List Giving → Giving → Type 0
IsOneOf [] g = ⊥
IsOneOf (h ∷ gs) g = (h ≡ g) ⊎ IsOneOf gs g

pub first_part : (xs ys : List Giving) (g : Giving) → IsOneOf xs g → IsOneOf (xs ++ ys) g
first_part [] ys g is = absurd is
first_part (x ∷ xs) ys g is = elim is [ inl here ↦ inl here | inr later ↦ inr (first_part xs ys g later) ]

pub second_part : (xs ys : List Giving) (g : Giving) → IsOneOf ys g → IsOneOf (xs ++ ys) g
second_part [] ys g is = is
second_part (x ∷ xs) ys g is = inr (second_part xs ys g is)

pub of_all : (P : Giving → Type 0) (gs : List Giving) (g : Giving) → AllByRecursion P gs → IsOneOf gs g → P g
of_all P [] g all is = absurd is
of_all P (h ∷ gs) g all is = elim is [ inl here ↦ subst P here all.0 | inr later ↦ of_all P gs g all.1 later ]

pub all_weaker : (P Q : Giving → Type 0) → ((g : Giving) → P g → Q g) → (gs : List Giving) → AllByRecursion P gs → AllByRecursion Q gs
all_weaker P Q f [] all = tt
all_weaker P Q f (g ∷ gs) all = (f g all.0, all_weaker P Q f gs all.1)

pub givings_append : (xs ys : List Act) → givings (xs ++ ys) ≡ givings xs ++ givings ys
givings_append [] ys = refl
givings_append (act.Grant x mac ∷ xs) ys = ap (λ gs. gives x mac ∷ gs) (givings_append xs ys)
givings_append (act.Tell told ∷ xs) ys = givings_append xs ys
givings_append (act.Control port frame ∷ xs) ys = givings_append xs ys
givings_append (act.Make frame ∷ xs) ys = givings_append xs ys
givings_append (act.Redirect old new ∷ xs) ys = givings_append xs ys
givings_append (act.Pass port frame ∷ xs) ys = givings_append xs ys
givings_append (act.Free x ∷ xs) ys = givings_append xs ys
givings_append (act.Take ∷ xs) ys = givings_append xs ys
givings_append (act.Drop cause ∷ xs) ys = givings_append xs ys

pub none_given : (acts : List Act) → AreSilent acts → givings acts ≡ []
none_given [] are = refl
none_given (act.Grant x mac ∷ acts) are = absurd are.0
none_given (act.Tell told ∷ acts) are = none_given acts are.1
none_given (act.Control port frame ∷ acts) are = none_given acts are.1
none_given (act.Make frame ∷ acts) are = none_given acts are.1
none_given (act.Redirect old new ∷ acts) are = none_given acts are.1
none_given (act.Pass port frame ∷ acts) are = none_given acts are.1
none_given (act.Free x ∷ acts) are = absurd are.0
none_given (act.Take ∷ acts) are = none_given acts are.1
none_given (act.Drop cause ∷ acts) are = none_given acts are.1

-- each was nobody's before
abbrev pub IsFresh : SwitchView → Giving → Type 0
IsFresh v g = is_live v g.pmac ≡ false

-- and is this host's then
abbrev pub IsNewlyGiven : SwitchView → SwitchView → Giving → Type 0
IsNewlyGiven v w g = IsFresh v g × IsHeldFor (λ y. granted w y) g.pmac g.mac

-- ---- acts that free no address
abbrev pub FreesNone : Act → Type 0
FreesNone (act.Free x) = ⊥
FreesNone a = Unit {0}

pub silent_frees_none : (acts : List Act) → AreSilent acts → AllByRecursion FreesNone acts
silent_frees_none [] are = tt
silent_frees_none (act.Free x ∷ acts) are = absurd are.0
silent_frees_none (a ∷ acts) are = (tt, silent_frees_none acts are.1)
