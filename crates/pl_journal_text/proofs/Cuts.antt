-- A text cut at its first blank.
use Rattle.std.proofs.Common.{◌≡◌, ◌≢◌, ℕ, suc, ◌+◌, ◌-◌, take, List, [], ◌∷◌, ◌++◌, length, Option, Some, None, refl, sym, ◌∙◌, arith}
use Rattle.std.specs.Option.{IfSome, IfNone, MatchOption}
use Rattle.std.proofs.lemmas.Str.Pattern.{IsSplitOnceResult, split_parts, strip_suffix_char}
use Rattle.std.specs.Str.Pattern.{FindsCharSuffix}
use denote.Ref.{Bor}
use Rattle.pl_journal_text.specs.Reading.{IsCut, IsFree}

-- a text has one first place of a byte
pub cut_once : (c : ℕ) (a b x y : List ℕ) → IsFree c a → IsFree c x → a ++ c ∷ b ≡ x ++ c ∷ y → (a ≡ x) × (b ≡ y)
cut_once c [] b [] y free other same = (refl, (cc))
cut_once c [] b (d ∷ x) y free other same = absurd (other 0 (omega arith) (cc))
cut_once c (e ∷ a) b [] y free other same = absurd (free 0 (omega arith) (cc))
cut_once c (e ∷ a) b (d ∷ x) y free other same =
    let head : e ≡ d = (cc) in
    let tail : a ++ c ∷ b ≡ x ++ c ∷ y = (cc) in
    let rest = cut_once c a b x y (λ i h. free (suc i) (omega arith)) (λ i h. other (suc i) (omega arith)) tail in
    let first = rest.0 in
    ((cc), rest.1)

pub never_cut : (c : ℕ) (text a b : List ℕ) → IsFree c text → text ≢ a ++ c ∷ b
never_cut c [] [] b free same = absurd (cc)
never_cut c [] (e ∷ a) b free same = absurd (cc)
never_cut c (d ∷ text) [] b free same = free 0 (omega arith) (cc)
never_cut c (d ∷ text) (e ∷ a) b free same = never_cut c text a b (λ i h. free (suc i) (omega arith)) (cc)

-- two values with a blank between them: where there is no blank, or one of the two is not there
pub no_blank : {A B : Type 0} (sa : A → List ℕ) (sb : B → List ℕ) (Fa : A → Type 0) (Fb : B → Type 0) (text : List ℕ) → IsFree 32 text →
    (x : A × B) → Fa x.0 × Fb x.1 → text ≢ sa x.0 ++ 32 ∷ sb x.1
no_blank sa sb Fa Fb text free x fit same = never_cut 32 text (sa x.0) (sb x.1) free same

pub no_first : {A B : Type 0} (sa : A → List ℕ) (sb : B → List ℕ) (Fa : A → Type 0) (Fb : B → Type 0) (text before behind : List ℕ) → IsCut text before behind →
    ((x : A) → Fa x → IsFree 32 (sa x)) → ((x : A) → Fa x → before ≢ sa x) → (x : A × B) → Fa x.0 × Fb x.1 → text ≢ sa x.0 ++ 32 ∷ sb x.1
no_first sa sb Fa Fb text before behind is free none x fit same =
    none x.0 fit.0 (cut_once 32 before behind (sa x.0) (sb x.1) is.first (free x.0 fit.0) (sym is.whole ∙ same)).0

pub no_second : {A B : Type 0} (sa : A → List ℕ) (sb : B → List ℕ) (Fa : A → Type 0) (Fb : B → Type 0) (text before behind : List ℕ) → IsCut text before behind →
    ((x : A) → Fa x → IsFree 32 (sa x)) → ((x : B) → Fb x → behind ≢ sb x) → (x : A × B) → Fa x.0 × Fb x.1 → text ≢ sa x.0 ++ 32 ∷ sb x.1
no_second sa sb Fa Fb text before behind is free none x fit same =
    none x.1 fit.1 (cut_once 32 before behind (sa x.0) (sb x.1) is.first (free x.0 fit.0) (sym is.whole ∙ same)).1

-- what the split at a blank gives
pub cut_found : (text : List ℕ) (r : Option (Bor (List ℕ) × Bor (List ℕ))) → IsSplitOnceResult 32 text r → IfSome r (λ parts. IsCut text parts.0.now parts.1.now)
cut_found text None is = tt
cut_found text (Some parts) is =
    let split = split_parts 32 text (Some parts) is (omega arith) in
    record { whole = split.0; first = split.1 }

pub cut_none : (text : List ℕ) (r : Option (Bor (List ℕ) × Bor (List ℕ))) → IsSplitOnceResult 32 text r → IfNone r (IsFree 32 text)
cut_none text None is = split_parts 32 text None is (omega arith)
cut_none text (Some parts) is = tt

-- what the newline's removal gives
abbrev IsStripResult : List ℕ → Option (Bor (List ℕ)) → Type 0
IsStripResult bs r =
    MatchOption r (FindsCharSuffix 10 bs None) (λ x. (n : ℕ) × FindsCharSuffix 10 bs (Some n) × (x.now ≡ take (length bs - n) bs) × (length x.now + n ≡ length bs))

pub strip_found : (text : List ℕ) (r : Option (Bor (List ℕ))) → IsStripResult text r → IfSome r (λ front. text ≡ front.now ++ 10 ∷ [])
strip_found text None is = tt
strip_found text (Some front) is = strip_suffix_char 10 text (Some front) is (omega arith)

pub strip_none : (text : List ℕ) (r : Option (Bor (List ℕ))) → IsStripResult text r → IfNone r ((front : List ℕ) → text ≢ front ++ 10 ∷ [])
strip_none text None is = strip_suffix_char 10 text None is (omega arith)
strip_none text (Some front) is = tt
