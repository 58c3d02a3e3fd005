-- Rising lists with the same items are the same.
use Rattle.std.proofs.Common.{◌≡◌, ◌≤◌, Bool, List, [], ◌∷◌, length, Ordering, Less, Equal, Greater, refl, sym, ap, ◌∙◌, subst, inl, inr}
use Rattle.std.specs.List.{AllByRecursion, IsDistinct}
use Rattle.std.specs.List.Sorted.{IsStrictlySortedBy}
use Rattle.std.specs.Ordering.{ordering_reverse}
use Rattle.std.specs.Cmp.{IsEquivalence, IsTotalOrder}
use Rattle.std.proofs.lemmas.Cmp.{tied_itself}
use Rattle.std.proofs.lemmas.Map.Lookups.{CmpEqualImpliesEq}
use Rattle.std.proofs.lemmas.Map.Made.{length-le_from_is_member}
use Rattle.pl_node.specs.ManagerViews.{in_order}
use Rattle.pl_node.proofs.Among.{among_in_order, among_ordered, any_among, IsAmong, member_passes, rising_in_order}

module _ {K : Type 0} where
  abbrev IsWithin : List K → List K → Type 0
  IsWithin xs ys = (k : K) → IsAmong k xs → IsAmong k ys

  of_all : (P : K → Type 0) (x : K) (xs : List K) → AllByRecursion P xs → IsAmong x xs → P x
  of_all P x [] all h = absurd h
  of_all P x (y ∷ xs) all (inl is) = subst P is all.0
  of_all P x (y ∷ xs) all (inr h) = of_all P x xs all.1 h

  module _ (R : K → K → Ordering) (o : IsTotalOrder R) (exact : CmpEqualImpliesEq R) where
    not_less_itself : (a b : K) → R a b ≡ Less → a ≡ b → ⊥
    not_less_itself a b less is = let itself : R a a ≡ Equal = tied_itself o a in let also : R a a ≡ Less = subst (λ z. R a z ≡ Less) (sym is) less in cc

    not_both : (a b : K) → R a b ≡ Less → R b a ≡ Less → ⊥
    not_both a b less more = let turned : R b a ≡ Greater = o.antisymm b a ∙ ap ordering_reverse less in cc

    -- the first of both
    first_is : (x y : K) (xs ys : List K) → IsStrictlySortedBy R (x ∷ xs) → IsStrictlySortedBy R (y ∷ ys) →
        IsAmong x (y ∷ ys) → IsAmong y (x ∷ xs) → x ≡ y
    unfolding IsStrictlySortedBy
    first_is x y xs ys s t (inl is) k = sym is
    first_is x y xs ys s t (inr h) (inl is) = is
    first_is x y xs ys s t (inr h) (inr k) =
        absurd (not_both x y (of_all (λ z. R x z ≡ Less) y xs s.0 k) (of_all (λ z. R y z ≡ Less) x ys t.0 h))

    rest_within : (x y : K) (xs ys : List K) → x ≡ y → IsStrictlySortedBy R (x ∷ xs) → IsWithin (x ∷ xs) (y ∷ ys) → IsWithin xs ys
    unfolding IsStrictlySortedBy
    rest_within x y xs ys is s f k h = elim (f k (inr h)) [
      | inl same ↦ absurd (not_less_itself x k (of_all (λ z. R x z ≡ Less) k xs s.0 h) (is ∙ same))
      | inr there ↦ there
    ]

    pub same_rising : (xs ys : List K) → IsStrictlySortedBy R xs → IsStrictlySortedBy R ys → IsWithin xs ys → IsWithin ys xs → xs ≡ ys
    unfolding IsStrictlySortedBy
    same_rising [] [] s t f g = refl
    same_rising [] (y ∷ ys) s t f g = absurd (g y (inl refl))
    same_rising (x ∷ xs) [] s t f g = absurd (f x (inl refl))
    same_rising (x ∷ xs) (y ∷ ys) s t f g =
        let is : x ≡ y = first_is x y xs ys s t (f x (inl refl)) (g y (inl refl)) in
        let rest : xs ≡ ys =
        same_rising xs ys s.1 t.1 (rest_within x y xs ys is s f) (rest_within y x ys xs (sym is) t g) in
        λ i. is i ∷ rest i

    -- so two lists of the same items are the same in order
    pub same_order : (xs ys : List K) → IsWithin xs ys → IsWithin ys xs → in_order R xs ≡ in_order R ys
    same_order xs ys f g =
        same_rising (in_order R xs) (in_order R ys) (rising_in_order R o xs) (rising_in_order R o ys)
        (λ k h. among_in_order R exact k ys (f k (among_ordered R k xs h)))
        (λ k h. among_in_order R exact k xs (g k (among_ordered R k ys h)))

    -- and items that differ are no more than there are in order of them and others
    pub few_in_order : (same : K → K → Bool) → IsEquivalence same → (xs ys : List K) → IsDistinct same xs → IsWithin xs ys → length xs ≤ length (in_order R ys)
    few_in_order same laws xs ys once within =
        length-le_from_is_member laws xs (in_order R ys) once (λ q e.
        let at = member_passes (same q) xs e in
        any_among (same q) at.0 (in_order R ys) (among_in_order R exact at.0 ys (within at.0 at.1)) at.2)
