-- Groups are listed one by one.
use Rattle.std.proofs.Common.{◌≡◌, ℕ, zero, suc, ◌-◌, ◌<◌, List, [], ◌∷◌, ◌++◌, Some, None, length, take, sym, ap, ◌∙◌, arith, length-append}
use Rattle.std.specs.List.{slice_get}
use Rattle.std.proofs.lemmas.List.{take_all}

at_place : (xs : List ℕ) (n g : ℕ) → slice_get xs n ≡ Some g → (n < length xs) × (take (suc n) xs ≡ take n xs ++ g ∷ [])
at_place [] n g e = let none : None ≡ Some g = e in cc
at_place (x ∷ xs) zero g e = let same : x ≡ g = cc in (omega arith, ap (λ k. k ∷ []) same)
at_place (x ∷ xs) (suc n) g e = let rest = at_place xs n g e in (let lt : n < length xs = rest.0 in omega arith, ap (λ ys. x ∷ ys) rest.1)

pub listed_all : (xs : List ℕ) (n : ℕ) → slice_get xs n ≡ None → take n xs ≡ xs
listed_all [] n e = take_all n [] (omega arith)
listed_all (x ∷ xs) zero e = let none : Some x ≡ None = e in cc
listed_all (x ∷ xs) (suc n) e = ap (λ ys. x ∷ ys) (listed_all xs n e)

-- one more is listed, and fewer are left
pub listed_more : (xs items more : List ℕ) (n g : ℕ) → items ≡ take (length items) xs → n ≡ length items → Some g ≡ slice_get xs n → more ≡ items ++ g ∷ [] →
    (more ≡ take (length more) xs) × (length xs - length more < length xs - length items)
listed_more xs items more n g front is got e =
    let place = at_place xs (length items) g (ap (slice_get xs) (sym is) ∙ sym got) in
    let within : length items < length xs = place.0 in
    let long : length more ≡ suc (length items) = omega (arith, ap length e, length-append items (g ∷ [])) in
    (e ∙ ap (λ ys. ys ++ g ∷ []) front ∙ sym place.1 ∙ ap (λ k. take k xs) (sym long), omega arith)
