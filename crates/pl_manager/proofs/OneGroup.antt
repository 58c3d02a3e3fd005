-- Groups by their places in the list of groups, which rises.
use Rattle.std.proofs.Common.{◌≡◌, ℕ, zero, suc, ◌+◌, ◌==◌, ◌||◌, Bool, true, false, List, [], ◌∷◌, ◌++◌, Some, None, Less, nat_cmp, take, refl, sym, ap, ◌∙◌, subst, inl, inr, append-nil, eq-eqb, arith}
use Rattle.std.specs.List.{AllByRecursion, flat_map, list_any, slice_get}
use Rattle.std.specs.List.Sorted.{IsStrictlySortedBy}
use Rattle.std.proofs.lemmas.Bool.{eqb-true}
use Rattle.std.proofs.lemmas.Cmp.{nat_cmp_total, tied_itself}
use Rattle.pl_node.proofs.Exports.{any_among, IsAmong}

holds_of : (P : ℕ → Type 0) (x : ℕ) (xs : List ℕ) → AllByRecursion P xs → IsAmong x xs → P x
holds_of P x [] all h = absurd h
holds_of P x (y ∷ xs) all (inl is) = subst P is all.0
holds_of P x (y ∷ xs) all (inr h) = holds_of P x xs all.1 h

-- two numbers of which one comes before the other are not the same
pub apart : (x g : ℕ) → nat_cmp x g ≡ Less → (x == g) ≡ false
apart x g less = by (x == g) refl
  where
    by : (b : Bool) → (x == g) ≡ b → b ≡ false
    by false e = refl
    by true e = let itself = tied_itself nat_cmp_total g in let also : nat_cmp g g ≡ Less = subst (λ z. nat_cmp z g ≡ Less) (eqb-true x g e) less in absurd (cc)

among_at : (gs : List ℕ) (n g : ℕ) → slice_get gs n ≡ Some g → IsAmong g gs
among_at [] n g e = let none : None ≡ Some g = e in absurd (cc)
among_at (x ∷ gs) zero g e = let some : Some x ≡ Some g = e in inl (cc)
among_at (x ∷ gs) (suc n) g e = inr (among_at gs n g e)

-- one more is taken
taken_more : (gs : List ℕ) (n g : ℕ) → slice_get gs n ≡ Some g → take (suc n) gs ≡ take n gs ++ g ∷ []
taken_more [] n g e = let none : None ≡ Some g = e in absurd (cc)
taken_more (x ∷ gs) zero g e = let some : Some x ≡ Some g = e in let is : x ≡ g = cc in ap (λ z. z ∷ []) is
taken_more (x ∷ gs) (suc n) g e = ap (λ zs. x ∷ zs) (taken_more gs n g e)

pub one_more_taken : (gs : List ℕ) (n g : ℕ) → slice_get gs n ≡ Some g → take (n + 1) gs ≡ take n gs ++ g ∷ []
one_more_taken gs n g e = let next : n + 1 ≡ suc n = omega arith in ap (λ m. take m gs) next ∙ taken_more gs n g e

-- it was not taken before
pub first_taken : (gs : List ℕ) (n g : ℕ) → IsStrictlySortedBy nat_cmp gs → slice_get gs n ≡ Some g → list_any (λ h. h == g) (take n gs) ≡ false
unfolding IsStrictlySortedBy
first_taken [] n g s e = let none : None ≡ Some g = e in absurd (cc)
first_taken (x ∷ gs) zero g s e = refl
first_taken (x ∷ gs) (suc n) g s e =
    let less = holds_of (λ y. nat_cmp x y ≡ Less) g gs s.0 (among_at gs n g e) in
    ap (λ b. b || list_any (λ h. h == g) (take n gs)) (apart x g less) ∙ first_taken gs n g s.1 e

-- one that is among them passes a test of itself
pub listed_itself : (g : ℕ) (gs : List ℕ) → IsAmong g gs → list_any (λ h. h == g) gs ≡ true
listed_itself g gs h = any_among (λ h. h == g) g gs h (eq-eqb g g refl)

module _ {X : Type 0} (f : ℕ → List X) (g : ℕ) (others : (h : ℕ) → (g == h) ≡ false → f h ≡ []) where
  nothing_behind : (gs : List ℕ) → AllByRecursion (λ h. nat_cmp g h ≡ Less) gs → flat_map f gs ≡ []
  nothing_behind [] all = refl
  nothing_behind (h ∷ gs) all = (λ i. others h (apart g h all.0) i ++ nothing_behind gs all.1 i)

  -- where one group alone has something, all have that
  pub only_one : (gs : List ℕ) → IsStrictlySortedBy nat_cmp gs → IsAmong g gs → flat_map f gs ≡ f g
  unfolding IsStrictlySortedBy
  only_one [] s h = absurd h
  only_one (x ∷ gs) s (inl is) =
      let behind = nothing_behind gs (subst (λ z. AllByRecursion (λ h. nat_cmp z h ≡ Less) gs) is s.0) in
      (λ i. f (is i) ++ behind i) ∙ append-nil (f g)
  only_one (x ∷ gs) s (inr h) =
      let less = holds_of (λ y. nat_cmp x y ≡ Less) g gs s.0 h in
      let none = others x (turned x g (apart x g less)) in
      ap (λ zs. zs ++ flat_map f gs) none ∙ only_one gs s.1 h
    where
      turned : (x g : ℕ) → (x == g) ≡ false → (g == x) ≡ false
      turned x g e = by (g == x) refl
        where
          by : (b : Bool) → (g == x) ≡ b → b ≡ false
          by false k = refl
          by true k = let same = eq-eqb x g (sym (eqb-true g x k)) in absurd (cc)
