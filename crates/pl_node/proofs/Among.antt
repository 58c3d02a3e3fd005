-- What stands among the items of a list, through the words that make lists of lists.
use Rattle.std.proofs.Common.{◌≡◌, ◌⊎◌, ℕ, zero, suc, ◌<◌, Bool, true, false, cond, List, [], ◌∷◌, ◌++◌, map, length, Option, Some, None, Ordering, Less, Equal, Greater, refl, sym, ap, ◌∙◌, subst, inl, inr, arith, ◌+◌}
use Rattle.std.specs.Prelude.{Contains, slice_get, slice_index_or}
use Rattle.std.specs.List.{AllByRecursion, cons_option, filter, filter_map, flat_map, list_all, list_any, range_with_len}
use Rattle.std.specs.List.Sorted.{IsStrictlySortedBy}
use Rattle.std.specs.Ordering.{match_ordering, ordering_reverse}
use Rattle.std.specs.Cmp.{IsTotalOrder}
use Rattle.std.specs.BTreeSet.{insert_key}
use Rattle.std.proofs.lemmas.Bool.{and_from, false≢true, or_cases, or_left, or_right}
use Rattle.std.proofs.lemmas.Map.Lookups.{CmpEqualImpliesEq}
use Rattle.pl_node.specs.ManagerViews.{in_order, id_cmp}
use Rattle.std.proofs.lemmas.Cmp.{nat_cmp_total, on_total}
use Rattle.pl_frame.specs.declared.address.SwitchId.{SwitchId}

abbrev pub IsAmong : {X : Type 0} → X → List X → Type 0
IsAmong x [] = ⊥
IsAmong x (y ∷ ys) = (y ≡ x) ⊎ IsAmong x ys

module _ {X : Type 0} where
  pub among_of_Contains : (x : X) (xs : List X) → Contains xs x → IsAmong x xs
  among_of_Contains x xs h = at xs h.0 h.1 h.2
    where
      at : (ys : List X) (k : ℕ) → k < length ys → slice_index_or ys k x ≡ x → IsAmong x ys
      at [] k below is = absurd (omega arith)
      at (y ∷ ys) zero below is = inl is
      at (y ∷ ys) (suc k) below is = inr (at ys k (omega arith) is)

  pub Contains-of_among : (x : X) (xs : List X) → IsAmong x xs → Contains xs x
  Contains-of_among x [] h = absurd h
  Contains-of_among x (y ∷ ys) (inl is) = (0, omega arith, is)
  Contains-of_among x (y ∷ ys) (inr h) = let rest = Contains-of_among x ys h in (suc rest.0, omega (arith, rest.1), rest.2)

  pub among_append : (x : X) (xs ys : List X) → IsAmong x (xs ++ ys) → IsAmong x xs ⊎ IsAmong x ys
  among_append x [] ys h = inr h
  among_append x (y ∷ xs) ys (inl is) = inl (inl is)
  among_append x (y ∷ xs) ys (inr h) = elim (among_append x xs ys h) [ inl a ↦ inl (inr a) | inr b ↦ inr b ]

  pub among_left : (x : X) (xs ys : List X) → IsAmong x xs → IsAmong x (xs ++ ys)
  among_left x [] ys h = absurd h
  among_left x (y ∷ xs) ys (inl is) = inl is
  among_left x (y ∷ xs) ys (inr h) = inr (among_left x xs ys h)

  pub among_right : (x : X) (xs ys : List X) → IsAmong x ys → IsAmong x (xs ++ ys)
  among_right x [] ys h = h
  among_right x (y ∷ xs) ys h = inr (among_right x xs ys h)

  pub among_filter : (test : X → Bool) (x : X) (xs : List X) → IsAmong x (filter test xs) → IsAmong x xs × (test x ≡ true)
  among_filter test x [] h = absurd h
  among_filter test x (y ∷ xs) h = by (λ k. among_filter test x xs k) (test y) refl h
    where
      by : (IsAmong x (filter test xs) → IsAmong x xs × (test x ≡ true)) → (b : Bool) → test y ≡ b →
          IsAmong x (cond b (y ∷ filter test xs) (filter test xs)) → IsAmong x (y ∷ xs) × (test x ≡ true)
      by rest true e (inl is) = (inl is, subst (λ z. test z ≡ true) is e)
      by rest true e (inr k) = (inr (rest k).0, (rest k).1)
      by rest false e k = (inr (rest k).0, (rest k).1)

  pub among_filtered : (test : X → Bool) (x : X) (xs : List X) → IsAmong x xs → test x ≡ true → IsAmong x (filter test xs)
  among_filtered test x [] h e = absurd h
  among_filtered test x (y ∷ xs) (inl is) e =
      subst (λ b. IsAmong x (cond b (y ∷ filter test xs) (filter test xs))) (sym (subst (λ z. test z ≡ true) (sym is) e)) (inl is)
  among_filtered test x (y ∷ xs) (inr h) e = by (among_filtered test x xs h e) (test y)
    where
      by : IsAmong x (filter test xs) → (b : Bool) → IsAmong x (cond b (y ∷ filter test xs) (filter test xs))
      by rest true = inr rest
      by rest false = rest

  -- what holds of each passes for all
  pub all_among : (test : X → Bool) (xs : List X) → ((x : X) → IsAmong x xs → test x ≡ true) → list_all test xs ≡ true
  all_among test [] h = refl
  all_among test (x ∷ xs) h = and_from (test x) (list_all test xs) (h x (inl refl)) (all_among test xs (λ y k. h y (inr k)))

  pub any_among : (test : X → Bool) (x : X) (xs : List X) → IsAmong x xs → test x ≡ true → list_any test xs ≡ true
  any_among test x [] h e = absurd h
  any_among test x (y ∷ xs) (inl is) e = or_left (test y) (list_any test xs) (subst (λ z. test z ≡ true) (sym is) e)
  any_among test x (y ∷ xs) (inr h) e = or_right (test y) (list_any test xs) (any_among test x xs h e)

module _ {X Y : Type 0} where
  pub among_map : (f : X → Y) (y : Y) (xs : List X) → IsAmong y (map f xs) → (x : X) × IsAmong x xs × (f x ≡ y)
  among_map f y [] h = absurd h
  among_map f y (x ∷ xs) (inl is) = (x, inl refl, is)
  among_map f y (x ∷ xs) (inr h) = let rest = among_map f y xs h in (rest.0, inr rest.1, rest.2)

  pub among_mapped : (f : X → Y) (x : X) (xs : List X) → IsAmong x xs → IsAmong (f x) (map f xs)
  among_mapped f x [] h = absurd h
  among_mapped f x (z ∷ xs) (inl is) = inl (ap f is)
  among_mapped f x (z ∷ xs) (inr h) = inr (among_mapped f x xs h)

  pub among_flat_map : (f : X → List Y) (y : Y) (xs : List X) → IsAmong y (flat_map f xs) → (x : X) × IsAmong x xs × IsAmong y (f x)
  among_flat_map f y [] h = absurd h
  among_flat_map f y (x ∷ xs) h = elim (among_append y (f x) (flat_map f xs) h) [
    | inl here ↦ (x, inl refl, here)
    | inr there ↦ let rest = among_flat_map f y xs there in (rest.0, inr rest.1, rest.2)
  ]

  pub among_flat_mapped : (f : X → List Y) (y : Y) (x : X) (xs : List X) → IsAmong x xs → IsAmong y (f x) → IsAmong y (flat_map f xs)
  among_flat_mapped f y x [] h k = absurd h
  among_flat_mapped f y x (z ∷ xs) (inl is) k = among_left y (f z) (flat_map f xs) (subst (λ w. IsAmong y (f w)) (sym is) k)
  among_flat_mapped f y x (z ∷ xs) (inr h) k = among_right y (f z) (flat_map f xs) (among_flat_mapped f y x xs h k)

  pub among_filter_map : (f : X → Option Y) (y : Y) (xs : List X) → IsAmong y (filter_map f xs) → (x : X) × IsAmong x xs × (f x ≡ Some y)
  among_filter_map f y [] h = absurd h
  among_filter_map f y (x ∷ xs) h = by (λ k. among_filter_map f y xs k) (f x) refl h
    where
      by : (IsAmong y (filter_map f xs) → (z : X) × IsAmong z xs × (f z ≡ Some y)) → (o : Option Y) → f x ≡ o →
          IsAmong y (cons_option o (filter_map f xs)) → (z : X) × IsAmong z (x ∷ xs) × (f z ≡ Some y)
      by rest None e k = ((rest k).0, inr (rest k).1, (rest k).2)
      by rest (Some w) e (inl is) = (x, inl refl, e ∙ ap Some is)
      by rest (Some w) e (inr k) = ((rest k).0, inr (rest k).1, (rest k).2)

  pub among_filter_mapped : (f : X → Option Y) (y : Y) (x : X) (xs : List X) → IsAmong x xs → f x ≡ Some y → IsAmong y (filter_map f xs)
  among_filter_mapped f y x [] h e = absurd h
  among_filter_mapped f y x (z ∷ xs) (inl is) e = subst (λ o. IsAmong y (cons_option o (filter_map f xs))) (sym (ap f is ∙ e)) (inl refl)
  among_filter_mapped f y x (z ∷ xs) (inr h) e = by (among_filter_mapped f y x xs h e) (f z)
    where
      by : IsAmong y (filter_map f xs) → (o : Option Y) → IsAmong y (cons_option o (filter_map f xs))
      by rest None = rest
      by rest (Some w) = inr rest

module _ {K : Type 0} (R : K → K → Ordering) where
  pub among_insert : (k x : K) (xs : List K) → IsAmong x (insert_key R xs k) → (k ≡ x) ⊎ IsAmong x xs
  among_insert k x [] (inl is) = inl is
  among_insert k x [] (inr h) = absurd h
  among_insert k x (y ∷ xs) h = by (λ j. among_insert k x xs j) (R k y) h
    where
      by : (IsAmong x (insert_key R xs k) → (k ≡ x) ⊎ IsAmong x xs) → (o : Ordering) →
          IsAmong x (match_ordering o (k ∷ y ∷ xs) (y ∷ xs) (y ∷ insert_key R xs k)) → (k ≡ x) ⊎ IsAmong x (y ∷ xs)
      by rest Less (inl is) = inl is
      by rest Less (inr j) = inr j
      by rest Equal j = inr j
      by rest Greater (inl is) = inr (inl is)
      by rest Greater (inr j) = elim (rest j) [ inl is ↦ inl is | inr i ↦ inr (inr i) ]

  pub among_kept : (k x : K) (xs : List K) → IsAmong x xs → IsAmong x (insert_key R xs k)
  among_kept k x [] h = absurd h
  among_kept k x (y ∷ xs) h = by (λ j. among_kept k x xs j) (R k y) h
    where
      by : (IsAmong x xs → IsAmong x (insert_key R xs k)) → (o : Ordering) → IsAmong x (y ∷ xs) →
          IsAmong x (match_ordering o (k ∷ y ∷ xs) (y ∷ xs) (y ∷ insert_key R xs k))
      by rest Less j = inr j
      by rest Equal j = j
      by rest Greater (inl is) = inl is
      by rest Greater (inr j) = inr (rest j)

  pub among_ordered : (x : K) (xs : List K) → IsAmong x (in_order R xs) → IsAmong x xs
  among_ordered x [] h = h
  among_ordered x (y ∷ xs) h = elim (among_insert y x (in_order R xs) h) [ inl is ↦ inl is | inr k ↦ inr (among_ordered x xs k) ]

  module _ (exact : CmpEqualImpliesEq R) where
    pub among_inserted : (k : K) (xs : List K) → IsAmong k (insert_key R xs k)
    among_inserted k [] = inl refl
    among_inserted k (y ∷ xs) = by (among_inserted k xs) (R k y) refl
      where
        by : IsAmong k (insert_key R xs k) → (o : Ordering) → R k y ≡ o →
            IsAmong k (match_ordering o (k ∷ y ∷ xs) (y ∷ xs) (y ∷ insert_key R xs k))
        by rest Less e = inl refl
        by rest Equal e = inl (sym (exact k y e))
        by rest Greater e = inr rest

    pub among_in_order : (x : K) (xs : List K) → IsAmong x xs → IsAmong x (in_order R xs)
    among_in_order x [] h = h
    among_in_order x (y ∷ xs) (inl is) = subst (λ z. IsAmong x (insert_key R (in_order R xs) z)) (sym is) (among_inserted x (in_order R xs))
    among_in_order x (y ∷ xs) (inr h) = among_kept y x (in_order R xs) (among_in_order x xs h)

  -- ---- in order
  all_inserted : (P : K → Type 0) (k : K) (xs : List K) → P k → AllByRecursion P xs → AllByRecursion P (insert_key R xs k)
  all_inserted P k [] p h = (p, tt)
  all_inserted P k (y ∷ xs) p h = by (all_inserted P k xs p h.1) (R k y)
    where
      by : AllByRecursion P (insert_key R xs k) → (o : Ordering) → AllByRecursion P (match_ordering o (k ∷ y ∷ xs) (y ∷ xs) (y ∷ insert_key R xs k))
      by rest Less = (p, h)
      by rest Equal = h
      by rest Greater = (h.0, rest)

  all_weaker : (P Q : K → Type 0) → ((x : K) → P x → Q x) → (xs : List K) → AllByRecursion P xs → AllByRecursion Q xs
  all_weaker P Q f [] h = tt
  all_weaker P Q f (x ∷ xs) h = (f x h.0, all_weaker P Q f xs h.1)

  module _ (o : IsTotalOrder R) where
    pub rising_inserted : (k : K) (xs : List K) → IsStrictlySortedBy R xs → IsStrictlySortedBy R (insert_key R xs k)
    unfolding IsStrictlySortedBy
    rising_inserted k [] s = (tt, tt)
    rising_inserted k (y ∷ xs) s = by (rising_inserted k xs s.1) (R k y) refl
      where
        by : IsStrictlySortedBy R (insert_key R xs k) → (r : Ordering) → R k y ≡ r →
            IsStrictlySortedBy R (match_ordering r (k ∷ y ∷ xs) (y ∷ xs) (y ∷ insert_key R xs k))
        by rest Less e = ((e, all_weaker (λ z. R y z ≡ Less) (λ z. R k z ≡ Less) (λ z l. o.trans k y z e l) xs s.0), s)
        by rest Equal e = s
        by rest Greater e = (all_inserted (λ z. R y z ≡ Less) k xs (o.antisymm y k ∙ ap ordering_reverse e) s.0, rest)

    pub rising_in_order : (xs : List K) → IsStrictlySortedBy R (in_order R xs)
    unfolding IsStrictlySortedBy
    rising_in_order [] = tt
    rising_in_order (x ∷ xs) = rising_inserted x (in_order R xs) (rising_in_order xs)

pub id_total : IsTotalOrder id_cmp
id_total = on_total (λ (s : SwitchId). s.0) nat_cmp_total

-- some item passes
pub member_passes : {X : Type 0} (test : X → Bool) (xs : List X) → list_any test xs ≡ true → (x : X) × IsAmong x xs × (test x ≡ true)
member_passes test [] h = absurd (false≢true h)
member_passes test (x ∷ xs) h = elim (or_cases (test x) (list_any test xs) h) [
  | inl here ↦ (x, inl refl, here)
  | inr there ↦ let rest = member_passes test xs there in (rest.0, inr rest.1, rest.2)
]

pub holds_of : {K : Type 0} (P : K → Type 0) (x : K) (xs : List K) → AllByRecursion P xs → IsAmong x xs → P x
holds_of P x [] all h = absurd h
holds_of P x (y ∷ xs) all (inl is) = subst P is all.0
holds_of P x (y ∷ xs) all (inr h) = holds_of P x xs all.1 h

pub among_range : (p a n m : ℕ) → m ≡ a + p → p < n → IsAmong m (range_with_len a n)
among_range p a zero m is less = absurd (omega (arith, less))
among_range zero a (suc n) m is less = inl (omega (arith, is))
among_range (suc p) a (suc n) m is less = inr (among_range p (a + 1) n m (omega (arith, is)) (omega (arith, less)))

pub got_among : {X : Type 0} (xs : List X) (n : ℕ) (x : X) → slice_get xs n ≡ Some x → IsAmong x xs
got_among [] zero x h = let none : None ≡ Some x = h in absurd (cc)
got_among [] (suc n) x h = let none : None ≡ Some x = h in absurd (cc)
got_among (y ∷ xs) zero x h = inl (let same : Some y ≡ Some x = h in cc)
got_among (y ∷ xs) (suc n) x h = inr (got_among xs n x h)
