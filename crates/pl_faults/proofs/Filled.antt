-- A row is filled in place.
use Rattle.std.proofs.Common.{◌≡◌, ℕ, ◌<◌, ◌≤◌, ◌+◌, zero, suc, Bool, true, false, cond, List, [], ◌∷◌, ◌++◌, map, length, take, drop, get_or, set, replicate, refl, ap, ◌∙◌, arith}
use Rattle.std.proofs.lemmas.List.{append-nil, drop_all, take_all}

-- what is filled so far, and then the rest
abbrev pub filled_to : {X : Type 0} → (X → Bool) → List X → ℕ → List Bool
filled_to f xs i = map f (take i xs) ++ map (λ x. false) (drop i xs)

filled_at : {X : Type 0} (f : X → Bool) (xs : List X) (i : ℕ) (d : X) (b : Bool) → i < length xs → b ≡ f (get_or xs i d) →
    cond b (set (filled_to f xs i) i true) (filled_to f xs i) ≡ filled_to f xs (suc i)
filled_at f [] i d b within is = absurd (omega arith)
filled_at f (x ∷ xs) zero d true within is = ap (λ y. y ∷ map (λ z. false) xs) is
filled_at f (x ∷ xs) zero d false within is = ap (λ y. y ∷ map (λ z. false) xs) is
filled_at f (x ∷ xs) (suc i) d true within is = ap (λ l. f x ∷ l) (filled_at f xs i d true (omega arith) is)
filled_at f (x ∷ xs) (suc i) d false within is = ap (λ l. f x ∷ l) (filled_at f xs i d false (omega arith) is)

pub filled_more : {X : Type 0} (f : X → Bool) (xs : List X) (row : List Bool) (i : ℕ) (d : X) (b : Bool) → i < length xs → b ≡ f (get_or xs i d) →
    row ≡ filled_to f xs i → cond b (set row i true) row ≡ filled_to f xs (i + 1)
filled_more f xs row i d b within is was =
    let next : suc i ≡ i + 1 = omega arith in
    ap (λ r. cond b (set r i true) r) was ∙ filled_at f xs i d b within is ∙ ap (filled_to f xs) next

pub filled_all : {X : Type 0} (f : X → Bool) (xs : List X) (i : ℕ) → length xs ≤ i → filled_to f xs i ≡ map f xs
filled_all f xs i past = (λ j. map f (take_all i xs past j) ++ map (λ x. false) (drop_all i xs past j)) ∙ append-nil (map f xs)

-- nothing is filled yet
pub none_filled : {X : Type 0} (xs : List X) → replicate (length xs) false ≡ map (λ x. false) xs
none_filled [] = refl
none_filled (x ∷ xs) = ap (λ row. false ∷ row) (none_filled xs)
