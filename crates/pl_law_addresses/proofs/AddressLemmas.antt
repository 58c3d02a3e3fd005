-- Small facts on lists, addresses and tests.
use Rattle.std.proofs.Common.{◌≡◌, ◌⊎◌, ◌<◌, ◌≢◌, ℕ, zero, suc, ◌||◌, Bool, true, false, cond, set, List, [], ◌∷◌, ◌++◌, length, Some, slice_get, refl, sym, ap, subst, ◌∙◌, inl, inr, arith, ◌≤◌, AllPairs}
use Rattle.std.specs.List.{find, list_any}
use Rattle.std.proofs.lemmas.Bool.{cases_Bool, cases_eq, cases_lt, or_left, or_right, false≢true}
use Rattle.std.proofs.lemmas.List.Folds.{list_any-append}
use Rattle.std.proofs.lemmas.Option.{get_or_from_slice_get, none-some, same_Some, slice_get_within}
use Rattle.pl_pmac.specs.declared.pmac.Pmac.{Pmac}
use Rattle.pl_layouts.specs.Equality.{same_pmac}
use Rattle.pl_layouts.proofs.Exports.{pmac_is, pmac_itself}

-- ---- addresses

pub is_or_other : (x y : Pmac) → (x ≡ y) ⊎ (same_pmac x y ≡ false)
is_or_other x y = elim (cases_Bool (same_pmac x y)) [ inl is ↦ inl (pmac_is x y is) | inr other ↦ inr other ]

pub same_by : (x y : Pmac) → x ≡ y → same_pmac x y ≡ true
same_by x y is = subst (λ (z : Pmac). same_pmac x z ≡ true) is (pmac_itself x)

pub other_turned : (x y : Pmac) → same_pmac x y ≡ false → same_pmac y x ≡ false
other_turned x y other = elim (cases_Bool (same_pmac y x)) [
  | inl is ↦ absurd (false≢true (sym other ∙ same_by x y (sym (pmac_is y x is))))
  | inr apart ↦ apart
]

-- ---- lists
module _ {X : Type 0} (p : X → Bool) where
  pub any_before : (xs ys : List X) → list_any p xs ≡ true → list_any p (xs ++ ys) ≡ true
  any_before xs ys h = list_any-append p xs ys ∙ or_left (list_any p xs) (list_any p ys) h

  pub any_behind : (xs ys : List X) → list_any p ys ≡ true → list_any p (xs ++ ys) ≡ true
  any_behind xs ys h = list_any-append p xs ys ∙ or_right (list_any p xs) (list_any p ys) h

  -- none is there whose head does not pass
  pub any_rest : (x : X) (xs : List X) → p x ≡ false → list_any p (x ∷ xs) ≡ true → list_any p xs ≡ true
  any_rest x xs not_here h = ap (λ b. b || list_any p xs) (sym not_here) ∙ h

  pub find_passes : (xs : List X) (x : X) → find p xs ≡ Some x → p x ≡ true
  find_passes [] x h = absurd (none-some x h)
  find_passes (y ∷ xs) x h = by (λ k. find_passes xs x k) (p y) refl h
    where
      by : (find p xs ≡ Some x → p x ≡ true) → (b : Bool) → p y ≡ b → cond b (Some y) (find p xs) ≡ Some x → p x ≡ true
      by rest true is k = ap p (sym (same_Some y x k)) ∙ is
      by rest false is k = rest k

module _ {X : Type 0} where
  pub get-set_same : (xs : List X) (i : ℕ) (x : X) → i < length xs → slice_get (set xs i x) i ≡ Some x
  get-set_same [] i x h = absurd (omega (arith, h))
  get-set_same (y ∷ xs) zero x h = refl
  get-set_same (y ∷ xs) (suc i) x h = get-set_same xs i x (omega (arith, h))

  pub get-set_other : (xs : List X) (i j : ℕ) (x : X) → j ≢ i → slice_get (set xs i x) j ≡ slice_get xs j
  get-set_other [] i j x h = refl
  get-set_other (y ∷ xs) zero zero x h = absurd (h refl)
  get-set_other (y ∷ xs) zero (suc j) x h = refl
  get-set_other (y ∷ xs) (suc i) zero x h = refl
  get-set_other (y ∷ xs) (suc i) (suc j) x h = get-set_other xs i j x (λ e. h (ap suc e))

-- items that are apart by a key stand at one place each
pub one_index : {X K : Type 0} (f : X → K) (xs : List X) → AllPairs (λ a b. f a ≢ f b) xs → (m n : ℕ) (a b : X) → slice_get xs m ≡ Some a → slice_get xs n ≡ Some b →
    f a ≡ f b → m ≡ n
one_index f xs apart m n a b at_m at_n same = elim (cases_eq m n) [
  | inl is ↦ is
  | inr other ↦ elim (cases_lt m n) [
    | inl less ↦
        absurd (apart m n a less (slice_get_within xs n b at_n)
        (ap f (get_or_from_slice_get xs m a a at_m) ∙ same ∙ sym (ap f (get_or_from_slice_get xs n b a at_n))))
    | inr no_less ↦
        let more : n < m = below n m no_less (λ e. other (sym e)) in
        absurd (apart n m a more (slice_get_within xs m a at_m)
        (ap f (get_or_from_slice_get xs n b a at_n) ∙ sym same ∙ sym (ap f (get_or_from_slice_get xs m a a at_m))))
  ]
]
  where
    below : (i j : ℕ) → i ≤ j → i ≢ j → i < j
    below i j le ne = elim (cases_lt i j) [ inl lt ↦ lt | inr ge ↦ absurd (ne (omega (arith, le, ge))) ]

-- the place of what is found
pub find_place : {X : Type 0} (p : X → Bool) (xs : List X) (x : X) → find p xs ≡ Some x → (i : ℕ) × (slice_get xs i ≡ Some x)
find_place p [] x h = absurd (none-some x h)
find_place {X = X} p (y ∷ xs) x h = by (λ k. find_place p xs x k) (p y) h
  where
    by : (find p xs ≡ Some x → (i : ℕ) × (slice_get xs i ≡ Some x)) → (b : Bool) → cond b (Some y) (find p xs) ≡ Some x → (i : ℕ) × (slice_get (y ∷ xs) i ≡ Some x)
    by rest true k = (0, k)
    by rest false k = let it = rest k in (suc it.0, it.1)
