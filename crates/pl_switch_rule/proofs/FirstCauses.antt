-- The first cause of a frame, part by part: what drops and makes nothing, what makes nothing, and a frame that is made.
use Rattle.std.proofs.Common.{◌≡◌, ℕ, Bool, true, false, if◌then◌else◌, List, [], ◌∷◌, ◌++◌, Option, None, refl, sym, ap, subst, ◌∙◌, ◌⊎◌, inl, inr}
use Rattle.std.specs.List.{AllByRecursion}
use Rattle.pl_node.specs.declared.acts.Act.{Act}
use Rattle.pl_node.specs.declared.acts.Act.TheVariants.{Drop, Make}
use Rattle.pl_journal.specs.declared.cause.Cause.{Cause}
use Rattle.pl_switch_rule.specs.CauseOf.{DropsFor, IsNoDrop, behind_make}
use Rattle.pl_switch_rule.specs.DropCauses.{first_drop}
use Rattle.pl_steps.specs.Steps.{SwitchStep}
use Rattle.pl_switch_rule.proofs.FirstDrops.{AllGoOn, first_before, first_behind}

abbrev pub MakesNone : Act → Type 0
MakesNone (Make frame) = ⊥
MakesNone act = Unit {0}

abbrev pub AllMakeNone : List Act → Type 0
AllMakeNone acts = AllByRecursion MakesNone acts

behind_none : (acts : List Act) → AllMakeNone acts → behind_make acts ≡ []
behind_none [] none = refl
behind_none (Make frame ∷ acts) none = absurd none.0
behind_none (a ∷ acts) none = behind_none acts none.1

behind_of : (xs ys : List Act) → AllMakeNone xs → behind_make (xs ++ ys) ≡ behind_make ys
behind_of [] ys none = refl
behind_of (Make frame ∷ xs) ys none = absurd none.0
behind_of (a ∷ xs) ys none = behind_of xs ys none.1

pub go_on_make_none : (acts : List Act) → AllGoOn acts → AllMakeNone acts
go_on_make_none [] on = tt
go_on_make_none (Drop cause ∷ acts) on = absurd on.0
go_on_make_none (Make frame ∷ acts) on = absurd on.0
go_on_make_none (a ∷ acts) on = (tt, go_on_make_none acts on.1)

go_on_drop_none : (acts : List Act) → AllGoOn acts → first_drop acts ≡ None
go_on_drop_none [] on = refl
go_on_drop_none (Drop cause ∷ acts) on = absurd on.0
go_on_drop_none (Make frame ∷ acts) on = absurd on.0
go_on_drop_none (a ∷ acts) on = go_on_drop_none acts on.1

abbrev AreOthers : List Act → Type 0
AreOthers acts = (behind_make (behind_make acts) ≡ []) ⊎ AllByRecursion IsNoDrop (behind_make acts)

others_behind : (xs ys : List Act) → behind_make (xs ++ ys) ≡ behind_make ys → AreOthers ys → AreOthers (xs ++ ys)
others_behind xs ys behind others =
    elim others [ inl one ↦ inl (ap behind_make behind ∙ one) | inr none ↦ inr (subst (AllByRecursion IsNoDrop) (sym behind) none) ]

-- acts that make frames, and drop none
no_drop_behind : (acts : List Act) → AllByRecursion IsNoDrop acts → AllByRecursion IsNoDrop (behind_make acts)
no_drop_behind [] none = tt
no_drop_behind (Make frame ∷ acts) none = none.1
no_drop_behind (Drop cause ∷ acts) none = absurd none.0
no_drop_behind (a ∷ acts) none = no_drop_behind acts none.1

pub no_first_drop : (acts : List Act) → AllByRecursion IsNoDrop acts → first_drop acts ≡ None
no_first_drop [] none = refl
no_first_drop (Drop cause ∷ acts) none = absurd none.0
no_first_drop (Make frame ∷ acts) none = refl
no_first_drop (a ∷ acts) none = no_first_drop acts none.1

pub drops_none : (acts : List Act) → AllByRecursion IsNoDrop acts → DropsFor acts None None
drops_none acts none = let behind = no_drop_behind acts none in
    record { came = no_first_drop acts none; made = no_first_drop (behind_make acts) behind; others = inr behind }

-- acts that make no frame
pub drops_without : (acts : List Act) (cause : Option Cause) → AllMakeNone acts → first_drop acts ≡ cause → DropsFor acts cause None
drops_without acts cause none named = let behind = behind_none acts none in
    record { came = named; made = ap first_drop behind; others = inl (ap behind_make behind) }

-- nor drop one
pub drops_nothing : (acts : List Act) → AllGoOn acts → DropsFor acts None None
drops_nothing acts on = drops_without acts None (go_on_make_none acts on) (go_on_drop_none acts on)

-- and what follows them
pub drops_behind : (xs ys : List Act) (x y : Option Cause) → AllGoOn xs → DropsFor ys x y → DropsFor (xs ++ ys) x y
drops_behind xs ys x y on d = let behind = behind_of xs ys (go_on_make_none xs on) in
    record { came = first_behind xs ys on ∙ d.came; made = ap first_drop behind ∙ d.made; others = others_behind xs ys behind d.others }

-- acts that make no frame, before acts that speak of one that is made
pub drops_before : (xs ys : List Act) (x y : Option Cause) → AllMakeNone xs → first_drop xs ≡ x → DropsFor ys None y → DropsFor (xs ++ ys) x y
drops_before xs ys x y none named d = let behind = behind_of xs ys none in
    record { came = first_before xs ys d.came ∙ named; made = ap first_drop behind ∙ d.made; others = others_behind xs ys behind d.others }

-- a frame is made, and then none
pub drops_made : (frame : List ℕ) (acts : List Act) (y : Option Cause) → AllMakeNone acts → first_drop acts ≡ y → DropsFor (Make frame ∷ acts) None y
drops_made frame acts y none named = record { came = refl; made = named; others = inl (behind_none acts none) }

-- one of two parts
pub either_first : (test : Bool) (a b : SwitchStep) (x y : Option Cause) → first_drop a.acts ≡ x → first_drop b.acts ≡ y →
    first_drop (if test then a else b).acts ≡ (if test then x else y)
either_first true a b x y p q = p
either_first false a b x y p q = q
