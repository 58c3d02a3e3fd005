-- What is left of a list from an index on, and the item that stands there.
use Rattle.std.proofs.Common.{◌≡◌, ℕ, zero, suc, ◌+◌, ◌<◌, List, [], ◌∷◌, length, drop, slice_get, None, Some, sym, ap, ◌∙◌, refl, arith}
use Rattle.std.proofs.lemmas.List.{drop_more}
use Rattle.std.proofs.lemmas.Option.{get_or_from_slice_get, slice_get_within}

module _ {T : Type 0} where
  pub first_left : (xs : List T) (n : ℕ) (x : T) → Some x ≡ slice_get xs n → drop n xs ≡ x ∷ drop (n + 1) xs
  first_left xs n x at =
      drop_more xs n x (slice_get_within xs n x (sym at)) ∙ ap (λ y. y ∷ drop (n + 1) xs) (get_or_from_slice_get xs n x x (sym at))

  pub none_left : (xs : List T) (n : ℕ) → None ≡ slice_get xs n → drop n xs ≡ []
  none_left [] zero none = refl
  none_left [] (suc n) none = refl
  none_left (x ∷ xs) zero none = let some : None ≡ Some x = none in absurd (cc)
  none_left (x ∷ xs) (suc n) none = none_left xs n none

  pub one_less : (now new : List T) (x : T) → now ≡ x ∷ new → length new < length now
  one_less now new x is = let same : length now ≡ suc (length new) = ap length is in omega (arith, same)
