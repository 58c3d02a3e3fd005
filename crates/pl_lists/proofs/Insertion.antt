-- What a binary search says of the index of an item in a list that rises strictly, and what an insertion
-- there makes of the list.
use Rattle.std.proofs.Common.{◌≡◌, ℕ, zero, suc, ◌+◌, ◌-◌, ◌<◌, ◌≤◌, true, false, List, [], ◌∷◌, length, get_or, Result, Ok, Err, Some, IfOk, IfErr, is_ok, sym, refl, ap, ◌∙◌, inl, inr, arith}
use Rattle.std.specs.declared.cmp.Ordering.{Ordering}
use Rattle.std.specs.declared.cmp.Ordering.TheVariants.{Less, Equal, Greater}
use Rattle.std.specs.Ordering.{is_eq, ordering_index, ordering_reverse, match_ordering}
use Rattle.std.specs.Cmp.{IsTotalOrder, alike_right, tied_back}
use Rattle.std.proofs.lemmas.Option.{get_or_from_slice_get, slice_get_within}
use Rattle.std.specs.List.{All, AllByRecursion, AllWithin, HoldsAt, insert, list_any, slice_get}
use Rattle.std.specs.List.Sorted.{IsStrictlySortedBy, IsNonDecreasingBy, IsBinarySearchResult, IsSearchInRange}
use Rattle.std.specs.BTreeSet.{insert_key}
use Rattle.std.proofs.lemmas.Bool.{cases_lt}
use Rattle.std.proofs.lemmas.List.Folds.{list_any_at, list_any_none}

-- a fact of a choice by an ordering, by what the ordering is
by_rank : {X : Type 0} (P : X → Type 0) (r : Ordering) (xs ys zs : X) → (r ≡ Less → P xs) → (r ≡ Equal → P ys) → (r ≡ Greater → P zs)
    → P (match_ordering r xs ys zs)
by_rank P Less xs ys zs a b c = a refl
by_rank P Equal xs ys zs a b c = b refl
by_rank P Greater xs ys zs a b c = c refl

index_le_two : (r : Ordering) → ordering_index r ≤ 2
index_le_two Less = omega arith
index_le_two Equal = omega arith
index_le_two Greater = omega arith

is_less : (r : Ordering) → ordering_index r ≡ 0 → r ≡ Less
is_less Less e = refl
is_less Equal e = absurd (omega (arith, e))
is_less Greater e = absurd (omega (arith, e))

module _ {K : Type 0} where
  all_map : (P Q : K → Type 0) → ((y : K) → P y → Q y) → (ys : List K) → AllByRecursion P ys → AllByRecursion Q ys
  all_map P Q f [] a = tt
  all_map P Q f (y ∷ ys) a = (f y a.0, all_map P Q f ys a.1)

  all_at : (P : K → Type 0) (xs : List K) (k : ℕ) (d : K) → AllByRecursion P xs → k < length xs → P (get_or xs k d)
  all_at P [] k d a h = absurd (omega arith)
  all_at P (y ∷ ys) zero d a h = a.0
  all_at P (y ∷ ys) (suc k) d a h = all_at P ys k d a.1 (omega arith)

module _ {K : Type 0} {R : K → K → Ordering} (o : IsTotalOrder R) where
  greater_back : (x y : K) → R x y ≡ Less → R y x ≡ Greater
  greater_back x y e = o.antisymm y x ∙ ap ordering_reverse e

  less_back : (x y : K) → R x y ≡ Greater → R y x ≡ Less
  less_back x y e = o.antisymm y x ∙ ap ordering_reverse e

  -- of two items the lower compares with a third no higher
  index_rises : (y z x : K) (r : Ordering) → R y z ≡ Less → R z x ≡ r → ordering_index (R y x) ≤ ordering_index r
  index_rises y z x Less e f = let below : R y x ≡ Less = o.trans y z x e f in rw below (omega arith)
  index_rises y z x Equal e f = let below : R y x ≡ Less = sym (alike_right o z x y f) ∙ e in rw below (omega arith)
  index_rises y z x Greater e f = index_le_two (R y x)

  -- along a list that rises strictly the comparisons with an item do not fall
  pub comparisons_rise : (x : K) (xs : List K) → IsStrictlySortedBy R xs → IsNonDecreasingBy (λ y. ordering_index (R y x)) xs
  unfolding IsStrictlySortedBy
  comparisons_rise x [] s i j d h lt = absurd (omega arith)
  comparisons_rise x (y ∷ ys) s zero zero d h lt = omega arith
  comparisons_rise x (y ∷ ys) s zero (suc j) d h lt =
      index_rises y (get_or ys j d) x (R (get_or ys j d) x) (all_at (λ z. R y z ≡ Less) ys j d s.0 (omega arith)) refl
  comparisons_rise x (y ∷ ys) s (suc i) zero d h lt = absurd (omega arith)
  comparisons_rise x (y ∷ ys) s (suc i) (suc j) d h lt = comparisons_rise x ys s.1 i j d (omega arith) (omega arith)

  -- at the index between the lower and the higher items an insertion makes `insert_key`
  insert_at_gap : (x : K) (xs : List K) (i : ℕ) → AllWithin (λ y. R y x ≡ Less) xs 0 i → AllWithin (λ y. R y x ≡ Greater) xs i (length xs)
      → i ≤ length xs → insert xs i x ≡ insert_key R xs x
  insert_at_gap x [] zero below above h = refl
  insert_at_gap x [] (suc i) below above h = refl
  insert_at_gap x (y ∷ ys) zero below above h =
      let e : R x y ≡ Less = less_back y x (above 0 y (omega arith) (omega arith)) in rw e refl
  insert_at_gap x (y ∷ ys) (suc i) below above h =
      let e : R x y ≡ Greater = greater_back y x (below 0 y (omega arith) (omega arith)) in
      rw e (ap (λ l. y ∷ l) (insert_at_gap x ys i (λ k d low lt. below (suc k) d (omega arith) (omega arith))
      (λ k d low lt. above (suc k) d (omega arith) (omega arith)) (omega arith)))

  -- an item that is there already is not inserted
  insert_present : (x : K) (xs : List K) (i : ℕ) → IsStrictlySortedBy R xs → i < length xs → HoldsAt (λ y. R y x ≡ Equal) xs i
      → xs ≡ insert_key R xs x
  unfolding IsStrictlySortedBy
  insert_present x [] i s h at = absurd (omega arith)
  insert_present x (y ∷ ys) zero s h at = let e : R x y ≡ Equal = tied_back o y x (at y) in rw e refl
  insert_present x (y ∷ ys) (suc i) s h at =
      let up : R y (get_or ys i x) ≡ Less = all_at (λ z. R y z ≡ Less) ys i x s.0 (omega arith) in
      let e : R x y ≡ Greater = greater_back y x (sym (alike_right o (get_or ys i x) x y (at x)) ∙ up) in
      rw e (ap (λ l. y ∷ l) (insert_present x ys i s.1 (omega arith) at))

  all_inserted : (P : K → Type 0) (x : K) (xs : List K) → P x → AllByRecursion P xs → AllByRecursion P (insert_key R xs x)
  all_inserted P x [] p a = (p, tt)
  all_inserted P x (y ∷ ys) p a = by_rank (AllByRecursion P) (R x y) _ _ _ (λ e. (p, a)) (λ e. a) (λ e. (a.0, all_inserted P x ys p a.1))

  -- `insert_key` keeps a list strictly rising
  pub insert_key_rises : (x : K) (xs : List K) → IsStrictlySortedBy R xs → IsStrictlySortedBy R (insert_key R xs x)
  unfolding IsStrictlySortedBy
  insert_key_rises x [] s = (tt, tt)
  insert_key_rises x (y ∷ ys) s =
      by_rank (IsStrictlySortedBy R) (R x y) _ _ _
      (λ e. ((e, all_map (λ z. R y z ≡ Less) (λ z. R x z ≡ Less) (λ z f. o.trans x y z e f) ys s.0), s))
      (λ e. s)
      (λ e. (all_inserted (λ z. R y z ≡ Less) x ys (less_back x y e) s.0, insert_key_rises x ys s.1))

  -- where the last item comes before another, each does
  pub all_before_last : (x : K) (xs : List K) (n : ℕ) (d : K) → IsStrictlySortedBy R xs → n + 1 ≡ length xs → R (get_or xs n d) x ≡ Less
      → AllByRecursion (λ y. R y x ≡ Less) xs
  unfolding IsStrictlySortedBy
  all_before_last x [] n d s many last = tt
  all_before_last x (y ∷ []) zero d s many last = (last, tt)
  all_before_last x (y ∷ []) (suc n) d s many last = absurd (omega arith)
  all_before_last x (y ∷ z ∷ zs) zero d s many last = absurd (omega arith)
  all_before_last x (y ∷ z ∷ zs) (suc n) d s many last =
      let rest = all_before_last x (z ∷ zs) n d s.1 (omega arith) last in (o.trans y z x s.0.0 rest.0, rest)

  pub all_before : (x last : K) (xs ys : List K) (r : Ordering) → IsStrictlySortedBy R xs → ys ≡ xs
      → Some last ≡ slice_get ys (length ys - 1) → r ≡ R last x → ordering_index r ≡ 0 → AllByRecursion (λ y. R y x ≡ Less) xs
  all_before x last xs ys r sorted same at ranked less =
      let found : slice_get xs (length xs - 1) ≡ Some last = rw (← same) (sym at) in
      let within = slice_get_within xs (length xs - 1) last found in
      let is = get_or_from_slice_get xs (length xs - 1) last last found in
      all_before_last x xs (length xs - 1) last sorted (omega (arith, within)) (rw is (sym ranked ∙ is_less r less))

  -- an item above all others goes behind the last
  pub goes_last : (x : K) (xs : List K) → AllByRecursion (λ y. R y x ≡ Less) xs
      → (insert xs (length xs) x ≡ insert_key R xs x) × (false ≡ list_any (λ y. is_eq (R x y)) xs)
  goes_last x [] low = (refl, refl)
  goes_last x (y ∷ ys) low =
      let e : R x y ≡ Greater = greater_back y x low.0 in let rest = goes_last x ys low.1 in rw e (ap (λ l. y ∷ l) rest.0, rest.1)

  -- what is found at an index is a member
  found_there : (x : K) (xs : List K) (i : ℕ) → i < length xs → HoldsAt (λ y. R y x ≡ Equal) xs i → true ≡ list_any (λ y. is_eq (R x y)) xs
  found_there x xs i h at = sym (list_any_at (λ y. is_eq (R x y)) xs i x h (ap is_eq (tied_back o (get_or xs i x) x (at x))))

  -- where there is a gap for an item, the item is no member
  missed : (x : K) (xs : List K) (i : ℕ) → AllWithin (λ y. R y x ≡ Less) xs 0 i → AllWithin (λ y. R y x ≡ Greater) xs i (length xs)
      → false ≡ list_any (λ y. is_eq (R x y)) xs
  missed x xs i below above = sym (list_any_none (λ y. is_eq (R x y)) xs other)
    where
      other : All (λ y. is_eq (R x y) ≡ false) xs
      other k d h = elim (cases_lt k i) [
        | inl lt ↦ ap is_eq (greater_back (get_or xs k d) x (below k d (omega arith) lt))
        | inr ge ↦ ap is_eq (less_back (get_or xs k d) x (above k d ge h))
      ]

  module _ (x : K) (xs : List K) (s : IsStrictlySortedBy R xs) where
    -- an item that a search found is there already
    pub found_inserts_nothing : (r : Result ℕ ℕ) → IsSearchInRange r (length xs) → IsBinarySearchResult (λ y. R y x) xs r
        → IfOk r (λ i. insert_key R xs x ≡ xs)
    found_inserts_nothing (Ok i) h at = sym (insert_present x xs i s h at)
    found_inserts_nothing (Err i) h parted = tt

    -- one that it missed goes to the index that it answered
    pub missed_inserts : (r : Result ℕ ℕ) → IsSearchInRange r (length xs) → IsBinarySearchResult (λ y. R y x) xs r
        → IfErr r (λ i. insert xs i x ≡ insert_key R xs x)
    missed_inserts (Ok i) h at = tt
    missed_inserts (Err i) h parted = let p = parted (comparisons_rise x xs s) in insert_at_gap x xs i p.0 p.1 h

    -- whether it was found tells membership
    pub tells_member : (r : Result ℕ ℕ) → IsSearchInRange r (length xs) → IsBinarySearchResult (λ y. R y x) xs r
        → is_ok r ≡ list_any (λ y. is_eq (R x y)) xs
    tells_member (Ok i) h at = found_there x xs i h at
    tells_member (Err i) h parted = let p = parted (comparisons_rise x xs s) in missed x xs i p.0 p.1
