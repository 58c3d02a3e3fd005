-- Items that rise are put in place one behind the other.
use Rattle.std.proofs.Common.{◌≡◌, ℕ, suc, ◌+◌, ◌<◌, drop-cons, List, [], ◌∷◌, ◌++◌, length, get_or, take, drop, Ordering, Less, refl, sym, ap, ◌∙◌, subst}
use Rattle.std.proofs.lemmas.List.{take-append-drop, take_more}
use Rattle.std.specs.BTreeSet.{insert_key}
use Rattle.std.specs.Cmp.{IsTotalOrder}
use Rattle.std.specs.List.{AllByRecursion}
use Rattle.std.specs.List.Sorted.{IsStrictlySortedBy}
use Rattle.std.specs.Ordering.{match_ordering, ordering_reverse}

module _ {K : Type 0} {R : K → K → Ordering} (total : IsTotalOrder R) where
  below_all : (x y : K) (xs ys : List K) → AllByRecursion (λ z. R x z ≡ Less) (xs ++ y ∷ ys) → R x y ≡ Less
  below_all x y [] ys all = all.0
  below_all x y (z ∷ xs) ys all = below_all x y xs ys all.1

  goes_last : (xs ys : List K) (y : K) → IsStrictlySortedBy R (xs ++ y ∷ ys) → insert_key R xs y ≡ xs ++ y ∷ []
  unfolding IsStrictlySortedBy
  goes_last [] ys y sorted = refl
  goes_last (x ∷ xs) ys y sorted =
      ap (λ o. match_ordering o (y ∷ x ∷ xs) (x ∷ xs) (x ∷ insert_key R xs y)) (total.antisymm y x ∙ ap ordering_reverse (below_all x y xs ys sorted.0))
      ∙ ap (λ zs. x ∷ zs) (goes_last xs ys y sorted.1)

  -- one more item is put behind those before it
  pub one_further : (items : List K) (i : ℕ) (item : K) → IsStrictlySortedBy R items → i < length items → item ≡ get_or items i item →
      insert_key R (take i items) item ≡ take (i + 1) items
  one_further items i item sorted within is =
      let parts : items ≡ take i items ++ (item ∷ drop (suc i) items) =
      sym (take-append-drop i items) ∙ ap (λ rest. take i items ++ rest) (drop-cons items i item within ∙ ap (λ x. x ∷ drop (suc i) items) (sym is)) in
      goes_last (take i items) (drop (suc i) items) item (subst (IsStrictlySortedBy R) parts sorted)
      ∙ ap (λ x. take i items ++ x ∷ []) is ∙ sym (take_more items i item within)
