-- What holds of all that was read, and of all that was checked.
use Rattle.std.proofs.Common.{◌≡◌, ℕ, ◌<◌, Bool, false, List, [], ◌∷◌, ◌++◌, length, get_or, map, Result, Ok, All, AllPairs, sym, ◌∙◌, arith}
use Rattle.std.specs.Bool.{⊤}
use Rattle.std.specs.List.{flat_map, list_any}
use Rattle.std.proofs.lemmas.Bool.{false≢true, false_from_ne_true, or_parts}
use Rattle.std.proofs.lemmas.List.{get_or-map, length-map}
use Rattle.std.proofs.lemmas.List.Elements.{All-cons, All-head, All-nil, All-push, All-tail}
use Rattle.std.proofs.lemmas.List.Folds.{list_any-append, list_any_at}
use Rattle.std.proofs.lemmas.List.Quantifiers.{all_pairs_push}
use Rattle.toml.specs.Data.{Members}
use Rattle.pl_topology.specs.declared.error.TopologyError.{TopologyError}
use Rattle.pl_topology.specs.Refusal.{all_beside, each}
use Rattle.pl_topology.proofs.RefusalLemmas.{bind_ok}

-- what none passes fails at each
pub none_at : {A : Type 0} (p : A → Bool) (xs : List A) → list_any p xs ≡ false → (i : ℕ) (d : A) → i < length xs → p (get_or xs i d) ≡ false
none_at p xs none i d within = false_from_ne_true (p (get_or xs i d)) (λ passes. false≢true (sym none ∙ list_any_at p xs i d within passes))

-- what none of two lists passes
pub none_of_both : {A : Type 0} (p : A → Bool) (xs ys : List A) → list_any p (xs ++ ys) ≡ false → (list_any p xs ≡ false) × (list_any p ys ≡ false)
none_of_both p xs ys none = or_parts (list_any p xs) (list_any p ys) (sym (list_any-append p xs ys) ∙ none)

pub AllPairs-none : {A : Type 0} (R : A → A → Type 0) → AllPairs R []
AllPairs-none R i j d less within = absurd (omega arith)

-- pairs of images
pub AllPairs-map : {A B : Type 0} (R : B → B → Type 0) (f : A → B) (d : A) (xs : List A) → AllPairs (λ x y. R (f x) (f y)) xs → AllPairs R (map f xs)
AllPairs-map R f d xs pairs i j e less within =
    let inside : j < length xs = (rw length-map at within) in
    let low : i < length xs = omega arith in
    rw (get_or-map f xs i d e low, get_or-map f xs j d e inside) (pairs i j d less inside)

-- each value that is read has what a reading gives
pub all_beside-All : {B : Type 0} (P : B → Type 0) (read : List B → Members → Result B TopologyError) (step : (before : List B) (t : Members) (y : B) → read before t ≡ Ok y → P y)
    (before : List B) (tables : List Members) (ys : List B) → All P before → all_beside read before tables ≡ Ok ys → All P ys
all_beside-All P read step before [] ys all given =
    let same : before ≡ ys = cc in
    (rw same at all)
all_beside-All P read step before (t ∷ tables) ys all given =
    let (y, read_y, rest) = bind_ok (read before t) (λ y. all_beside read (before ++ y ∷ []) tables) ys given in
    all_beside-All P read step (before ++ y ∷ []) tables ys (All-push P before y all (step before t y read_y)) rest

pub all_beside-AllPairs : {B : Type 0} (R : B → B → Type 0) (read : List B → Members → Result B TopologyError)
    (step : (before : List B) (t : Members) (y : B) → read before t ≡ Ok y → (i : ℕ) (d : B) → i < length before → R (get_or before i d) y)
    (before : List B) (tables : List Members) (ys : List B) → AllPairs R before → all_beside read before tables ≡ Ok ys → AllPairs R ys
all_beside-AllPairs R read step before [] ys all given =
    let same : before ≡ ys = cc in
    (rw same at all)
all_beside-AllPairs R read step before (t ∷ tables) ys all given =
    let (y, read_y, rest) = bind_ok (read before t) (λ y. all_beside read (before ++ y ∷ []) tables) ys given in
    all_beside-AllPairs R read step (before ++ y ∷ []) tables ys (all_pairs_push R before y all (step before t y read_y)) rest

-- each item that passed has what its check says
pub each-All : {A : Type 0} (P : A → Type 0) (check : A → Result ⊤ TopologyError) (step : (x : A) → check x ≡ Ok tt → P x) (xs : List A) → each check xs ≡ Ok tt → All P xs
each-All P check step [] passed = All-nil P
each-All P check step (x ∷ xs) passed =
    let (u, first, rest) = bind_ok (check x) (λ _. each check xs) tt passed in
    All-cons P x xs (step x first) (each-All P check step xs rest)

pub All-weaker : {A : Type 0} (P Q : A → Type 0) (xs : List A) → ((x : A) → P x → Q x) → All P xs → All Q xs
All-weaker P Q xs weaker all i d within = weaker (get_or xs i d) (all i d within)

pub All-split : {A : Type 0} (P : A → Type 0) (xs ys : List A) → All P (xs ++ ys) → All P xs × All P ys
All-split P [] ys all = (All-nil P, all)
All-split P (x ∷ xs) ys all =
    let parts = All-split P xs ys (All-tail P x (xs ++ ys) all) in
    (All-cons P x xs (All-head P x (xs ++ ys) all) parts.0, parts.1)

-- what holds of all in all groups holds of each in each group
pub All-groups : {A B : Type 0} (P : B → Type 0) (items : A → List B) (xs : List A) → All P (flat_map items xs) → All (λ x. All P (items x)) xs
All-groups P items [] all = All-nil (λ x. All P (items x))
All-groups P items (x ∷ xs) all =
    let parts = All-split P (items x) (flat_map items xs) all in
    All-cons (λ x. All P (items x)) x xs parts.0 (All-groups P items xs parts.1)
