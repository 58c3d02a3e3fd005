-- A list that has something for each of n numbers, and nothing for two of them, has n elements at least.
use Rattle.std.proofs.Common.{◌≡◌, ℕ, zero, suc, ◌<◌, ◌≤◌, ◌==◌, ◌||◌, Bool, true, false, eqb-true, cond, List, [], ◌∷◌, length, refl, sym, ◌∙◌, ap, subst, arith}
use Rattle.std.specs.List.{list_any}

drop_one : ℕ → List ℕ → List ℕ
drop_one p [] = []
drop_one p (x ∷ xs) = cond (x == p) xs (x ∷ drop_one p xs)

one_less : (p : ℕ) (xs : List ℕ) → list_any (λ r. r == p) xs ≡ true → suc (length (drop_one p xs)) ≡ length xs
unfolding drop_one
one_less p [] any = absurd (cc any)
one_less p (x ∷ xs) any = by (x == p) any (one_less p xs)
  where
    by : (b : Bool) → (b || list_any (λ r. r == p) xs) ≡ true → (list_any (λ r. r == p) xs ≡ true → suc (length (drop_one p xs)) ≡ length xs) →
        suc (length (cond b xs (x ∷ drop_one p xs))) ≡ suc (length xs)
    by true any rest = refl
    by false any rest = ap suc (rest any)

still_there : (p q : ℕ) (xs : List ℕ) → (p ≡ q → ⊥) → list_any (λ r. r == q) xs ≡ true → list_any (λ r. r == q) (drop_one p xs) ≡ true
unfolding drop_one
still_there p q [] differ any = any
still_there p q (x ∷ xs) differ any = by (x == p) refl (x == q) refl any (still_there p q xs differ)
  where
    by : (b : Bool) → (x == p) ≡ b → (c : Bool) → (x == q) ≡ c → (c || list_any (λ r. r == q) xs) ≡ true →
        (list_any (λ r. r == q) xs ≡ true → list_any (λ r. r == q) (drop_one p xs) ≡ true) → list_any (λ r. r == q) (cond b xs (x ∷ drop_one p xs)) ≡ true
    by true same true also any rest = absurd (differ (sym (eqb-true x p same) ∙ eqb-true x q also))
    by true same false other any rest = any
    by false other true also any rest = ap (λ c. c || list_any (λ r. r == q) (drop_one p xs)) also
    by false other false also any rest = ap (λ c. c || list_any (λ r. r == q) (drop_one p xs)) also ∙ rest any

pub enough : (P : ℕ → ℕ → Type 0) → ((i j p : ℕ) → P i p → P j p → i ≡ j) → (n : ℕ) (xs : List ℕ) →
    ((j : ℕ) → j < n → (p : ℕ) × P j p × (list_any (λ r. r == p) xs ≡ true)) → n ≤ length xs
enough P apart zero xs each = omega arith
enough P apart (suc n) xs each =
    let last = each n (omega arith) in
    let less = one_less last.0 xs last.2 in
    let rest = enough P apart n (drop_one last.0 xs) (λ j below.
    let at = each j (omega (arith, below)) in
    (at.0, at.1, still_there last.0 at.0 xs (λ same. let one = apart n j at.0 (subst (P n) same last.1) at.1 in omega (arith, one, below)) at.2)) in
    omega (arith, less, rest)
