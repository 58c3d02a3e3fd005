-- Items that are put in one by one, in any order, stand in rising order.
use Rattle.std.proofs.Common.{◌≡◌, ◌⊎◌, List, [], ◌∷◌, Ordering, Less, Equal, Greater, refl, sym, ◌∙◌, inl, inr}
use Rattle.std.specs.Prelude.{fold}
use Rattle.std.specs.List.Sorted.{IsStrictlySortedBy}
use Rattle.std.specs.Ordering.{match_ordering}
use Rattle.std.specs.Cmp.{IsTotalOrder}
use Rattle.std.specs.BTreeSet.{insert_key}
use Rattle.std.proofs.lemmas.Map.Lookups.{CmpEqualImpliesEq}
use Rattle.pl_node.specs.ManagerViews.{in_order}
use Rattle.pl_node.proofs.Exports.{among_in_order, among_insert, among_ordered, IsAmong, rising_in_order, rising_inserted}
use Rattle.pl_reports.proofs.Exports.{same_rising}

module _ {K : Type 0} (R : K → K → Ordering) (o : IsTotalOrder R) (exact : CmpEqualImpliesEq R) where
  pub among_put_in : (k x : K) (xs : List K) → (x ≡ k) ⊎ IsAmong k xs → IsAmong k (insert_key R xs x)
  among_put_in k x [] (inl is) = inl is
  among_put_in k x [] (inr h) = absurd h
  among_put_in k x (y ∷ xs) h = by (λ j. among_put_in k x xs j) (R x y) refl h
    where
      by : ((x ≡ k) ⊎ IsAmong k xs → IsAmong k (insert_key R xs x)) → (r : Ordering) → R x y ≡ r → (x ≡ k) ⊎ IsAmong k (y ∷ xs) →
          IsAmong k (match_ordering r (x ∷ y ∷ xs) (y ∷ xs) (y ∷ insert_key R xs x))
      by rest Less e (inl is) = inl is
      by rest Less e (inr j) = inr j
      by rest Equal e (inl is) = inl (sym (exact x y e) ∙ is)
      by rest Equal e (inr j) = j
      by rest Greater e (inl is) = inr (rest (inl is))
      by rest Greater e (inr (inl is)) = inl is
      by rest Greater e (inr (inr j)) = inr (rest (inr j))

  pub fold_rises : (xs acc : List K) → IsStrictlySortedBy R acc → IsStrictlySortedBy R (fold (insert_key R) acc xs)
  fold_rises [] acc s = s
  fold_rises (x ∷ xs) acc s = fold_rises xs (insert_key R acc x) (rising_inserted R o x acc s)

  pub fold_among : (k : K) (xs acc : List K) → IsAmong k (fold (insert_key R) acc xs) → IsAmong k acc ⊎ IsAmong k xs
  fold_among k [] acc h = inl h
  fold_among k (x ∷ xs) acc h = elim (fold_among k xs (insert_key R acc x) h) [
    | inl j ↦ elim (among_insert R x k acc j) [ inl is ↦ inr (inl is) | inr i ↦ inl i ]
    | inr j ↦ inr (inr j)
  ]

  pub among_fold : (k : K) (xs acc : List K) → IsAmong k acc ⊎ IsAmong k xs → IsAmong k (fold (insert_key R) acc xs)
  among_fold k [] acc (inl h) = h
  among_fold k [] acc (inr h) = absurd h
  among_fold k (x ∷ xs) acc (inl h) = among_fold k xs (insert_key R acc x) (inl (among_put_in k x acc (inr h)))
  among_fold k (x ∷ xs) acc (inr (inl is)) = among_fold k xs (insert_key R acc x) (inl (among_put_in k x acc (inl is)))
  among_fold k (x ∷ xs) acc (inr (inr h)) = among_fold k xs (insert_key R acc x) (inr h)

  pub none_rise : IsStrictlySortedBy R []
  unfolding IsStrictlySortedBy
  none_rise = tt

  pub fold_in_order : (xs : List K) → fold (insert_key R) [] xs ≡ in_order R xs
  fold_in_order xs =
      same_rising R o exact (fold (insert_key R) [] xs) (in_order R xs) (fold_rises xs [] none_rise) (rising_in_order R o xs)
      (λ k h. elim (fold_among k xs [] h) [ inl j ↦ absurd j | inr j ↦ among_in_order R exact k xs j ])
      (λ k h. among_fold k xs [] (inr (among_ordered R k xs h)))

  -- a rising list is itself again
  pub fold_same : (xs : List K) → IsStrictlySortedBy R xs → fold (insert_key R) [] xs ≡ xs
  fold_same xs s =
      same_rising R o exact (fold (insert_key R) [] xs) xs (fold_rises xs [] none_rise) s
      (λ k h. elim (fold_among k xs [] h) [ inl j ↦ absurd j | inr j ↦ j ])
      (λ k h. among_fold k xs [] (inr h))
