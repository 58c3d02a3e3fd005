-- What the manager hears of an address of which it knows nothing, it hears in a report.
use Rattle.std.proofs.Common.{◌≡◌, ℕ, ◌<◌, Bool, true, false, List, [], ◌∷◌, ◌++◌, Some, None, refl, sym, ap, subst, ◌∙◌, inl, inr, arith}
use Rattle.std.proofs.lemmas.Bool.{false≢true}
use Rattle.pl_node.specs.ManagerViews.{Recall, number_behind}
use Rattle.pl_law_epochs.specs.Tenures.{Said, Tenure}
use Rattle.pl_law_epochs.specs.Tenures.Knowledge.{Nothing}
use Rattle.pl_law_epochs.specs.Tenures.Said.{Ages, Learns, Traps}
use Rattle.pl_law_epochs.specs.Tenures.Use.{Rests}
use Rattle.pl_law_epochs.specs.Situations.{AreCalm, IsIn, IsToldOrKnown, Situation, known_to, tenure_of}
use Rattle.pl_law_epochs.specs.Situations.Situation.{Counted, Gone, Led, LedTold, Recalled, Released, RestLedTold, RestRecalled, RestTold, Resting, Silent, Used}

-- calm words say of no trap
no_trap : (number : ℕ) (due : List Said) (to : Recall) (rest : List Said) → AreCalm number due → due ≡ Traps to ∷ rest → ⊥
no_trap number due to rest calm is = (subst (AreCalm number) is calm).0

no_trap_before : (number aged : ℕ) (due : List Said) (to : Recall) (rest : List Said) → AreCalm number due → (due ++ Ages aged ∷ []) ≡ Traps to ∷ rest → ⊥
no_trap_before number aged [] to rest calm is = absurd (cc)
no_trap_before number aged (Traps other ∷ due) to rest calm is = calm.0
no_trap_before number aged (Learns ∷ due) to rest calm is = absurd (cc)
no_trap_before number aged (Ages n ∷ due) to rest calm is = absurd (cc)

traps_alone : {later : Bool} (s : Situation later) (to : Recall) (due : List Said) → (tenure_of s).silent ≡ false → (tenure_of s).due ≡ Traps to ∷ due →
    (later ≡ true) × ((tenure_of s).known ≡ Nothing)
traps_alone (Silent use_is words numbered now) to due loud is = absurd (false≢true (sym loud))
traps_alone (Used words calm known told) to due loud is = absurd (no_trap 0 words to due calm is)
traps_alone (Recalled newer some words calm) to due loud is = absurd (no_trap newer.number words to due calm is)
traps_alone (Led newer some words calm known told) to due loud is = absurd (no_trap newer.number words to due calm is)
traps_alone (LedTold newer some now) to due loud is = (now, refl)
traps_alone (Resting behind words calm known told) to due loud is =
    absurd (no_trap_before (number_behind behind) (number_behind behind) words to due calm is)
traps_alone (RestTold number now) to due loud is = absurd (cc)
traps_alone (RestLedTold newer now) to due loud is = (now, refl)
traps_alone (Counted number behind known at) to due loud is = absurd (cc)
traps_alone (RestRecalled newer some words calm) to due loud is = absurd (no_trap newer.number words to due calm is)
traps_alone (Released number) to due loud is = absurd (cc)
traps_alone Gone to due loud is = absurd (cc)

-- of an address that is in use nothing is due that it has aged
not_aged : (due : List Said) (n : ℕ) (rest : List Said) → AreCalm 0 due → due ≡ Ages n ∷ rest → ⊥
not_aged due n rest calm is = let less : n < 0 = (subst (AreCalm 0) is calm).0 in omega (arith, less)

-- and of one that is about to age, and unknown, it is told first
told_first : (known : Bool) (due : List Said) (aged n : ℕ) (rest : List Said) → known_to known None ≡ Nothing → IsToldOrKnown None known due → AreCalm 0 due →
    (due ++ Ages aged ∷ []) ≡ Ages n ∷ rest → ⊥
told_first true due aged n rest unknown told calm is = absurd (cc)
told_first false due aged n rest unknown (inl is_known) calm is = false≢true is_known
told_first false [] aged n rest unknown (inr any) calm is = false≢true any
told_first false (Learns ∷ due) aged n rest unknown (inr any) calm is = absurd (cc)
told_first false (Traps to ∷ due) aged n rest unknown (inr any) calm is = calm.0
told_first false (Ages m ∷ due) aged n rest unknown (inr any) calm is = let less : m < 0 = calm.0 in omega (arith, less)

abbrev behind_first : List Said → List Said
behind_first [] = []
behind_first (word ∷ words) = words

abbrev number_first : List Said → ℕ
number_first (Ages n ∷ words) = n
number_first words = 0

ages_alone : {later : Bool} (s : Situation later) (n : ℕ) (due : List Said) → (tenure_of s).silent ≡ false → (tenure_of s).known ≡ Nothing →
    (tenure_of s).due ≡ Ages n ∷ due → (later ≡ true) × (due ≡ []) × ((tenure_of s).use_is ≡ Rests n)
ages_alone (Silent use_is words numbered now) n due loud unknown is = absurd (false≢true (sym loud))
ages_alone (Used words calm known told) n due loud unknown is = absurd (not_aged words n due calm is)
ages_alone (Recalled newer some words calm) n due loud unknown is = absurd (cc)
ages_alone (Led newer some words calm known told) n due loud unknown is = absurd (cc)
ages_alone (LedTold newer some now) n due loud unknown is = absurd (cc)
ages_alone (Resting None words calm known told) n due loud unknown is = absurd (told_first known words 0 n due unknown told calm is)
ages_alone (Resting (Some newer) words calm known told) n due loud unknown is = absurd (cc)
ages_alone (RestTold number now) n due loud unknown is = (now, sym (ap behind_first is), ap Rests (ap number_first is))
ages_alone (RestLedTold newer now) n due loud unknown is = absurd (cc)
ages_alone (Counted number behind known at) n due loud unknown is = absurd (cc)
ages_alone (RestRecalled newer some words calm) n due loud unknown is = absurd (cc)
ages_alone (Released number) n due loud unknown is = absurd (cc)
ages_alone Gone n due loud unknown is = absurd (cc)

pub traps_in_reports : (later : Bool) (t : Tenure) (to : Recall) (due : List Said) → IsIn later t → t.silent ≡ false → t.due ≡ Traps to ∷ due →
    (later ≡ true) × (t.known ≡ Nothing)
traps_in_reports later t to due at loud is =
    let told = traps_alone at.0 to due (ap (λ (u : Tenure). u.silent) at.1 ∙ loud) (ap (λ (u : Tenure). u.due) at.1 ∙ is) in
    (told.0, ap (λ (u : Tenure). u.known) (sym at.1) ∙ told.1)

pub ages_in_reports : (later : Bool) (t : Tenure) (n : ℕ) (due : List Said) → IsIn later t → t.silent ≡ false → t.known ≡ Nothing → t.due ≡ Ages n ∷ due →
    (later ≡ true) × (due ≡ []) × (t.use_is ≡ Rests n)
ages_in_reports later t n due at loud unknown is =
    let told = ages_alone at.0 n due (ap (λ (u : Tenure). u.silent) at.1 ∙ loud) (ap (λ (u : Tenure). u.known) at.1 ∙ unknown)
    (ap (λ (u : Tenure). u.due) at.1 ∙ is) in
    (told.0, told.1, ap (λ (u : Tenure). u.use_is) (sym at.1) ∙ told.2)
