-- The indices of a range that pass a test, and what stands where in two lists one behind the other.
use Rattle.std.proofs.Common.{◌≡◌, ℕ, zero, suc, ◌+◌, ◌-◌, ◌<◌, ◌≤◌, Bool, true, false, cond, List, [], ◌∷◌, ◌++◌, length, Some, slice_get, ◌⊎◌, refl, ap, ◌∙◌, inl, inr, arith}
use Rattle.std.proofs.lemmas.Option.{none-some, same_Some}
use Rattle.std.specs.List.{filter, range_with_len}
use Rattle.std.proofs.lemmas.List.Elements.{filter-append}

pub slice_get_left : {T : Type 0} (xs ys : List T) (i : ℕ) → i < length xs → slice_get (xs ++ ys) i ≡ slice_get xs i
slice_get_left [] ys i within = absurd (omega arith)
slice_get_left (x ∷ xs) ys zero within = refl
slice_get_left (x ∷ xs) ys (suc i) within = slice_get_left xs ys i (omega arith)

pub slice_get_right : {T : Type 0} (xs ys : List T) (i : ℕ) → length xs ≤ i → slice_get (xs ++ ys) i ≡ slice_get ys (i - length xs)
slice_get_right {T} [] ys i past =
    let same : i ≡ i - length {A = T} [] = omega arith in
    ap (slice_get ys) same
slice_get_right (x ∷ xs) ys zero past = absurd (omega arith)
slice_get_right (x ∷ xs) ys (suc i) past =
    let same : i - length xs ≡ suc i - length (x ∷ xs) = omega arith in
    slice_get_right xs ys i (omega arith) ∙ ap (slice_get ys) same

pub range_split : (m n from : ℕ) → range_with_len from (m + n) ≡ range_with_len from m ++ range_with_len (from + m) n
range_split zero n from =
    let many : 0 + n ≡ n = omega arith in
    let start : from ≡ from + 0 = omega arith in
    ap (range_with_len from) many ∙ ap (λ a. range_with_len a n) start
range_split (suc m) n from =
    let many : suc m + n ≡ suc (m + n) = omega arith in
    let start : from + 1 + m ≡ from + suc m = omega arith in
    ap (range_with_len from) many
    ∙ ap (λ l. from ∷ l) (range_split m n (from + 1) ∙ ap (λ a. range_with_len (from + 1) m ++ range_with_len a n) start)

module _ (test : ℕ → Bool) where
  -- the indices that pass, of n indices
  abbrev pub those : ℕ → ℕ → List ℕ
  those from n = filter test (range_with_len from n)

  pub those_split : (m n from : ℕ) → those from (m + n) ≡ those from m ++ those (from + m) n
  those_split m n from = ap (filter test) (range_split m n from) ∙ filter-append test (range_with_len from m) (range_with_len (from + m) n)

  pub none_there : (n from : ℕ) → ((k : ℕ) → from ≤ k → test k ≡ false) → those from n ≡ []
  none_there zero from none = refl
  none_there (suc n) from none =
      ap (λ b. cond b (from ∷ those (from + 1) n) (those (from + 1) n)) (none from (omega arith))
      ∙ none_there n (from + 1) (λ k low. none k (omega arith))

  one_more : (b : Bool) (from : ℕ) (rest : List ℕ) (i at : ℕ) → slice_get (cond b (from ∷ rest) rest) i ≡ Some at
      → (from ≡ at) ⊎ ((j : ℕ) × (slice_get rest j ≡ Some at))
  one_more true from rest zero at is = inl (same_Some from at is)
  one_more true from rest (suc i) at is = inr (i, is)
  one_more false from rest i at is = inr (i, is)

  pub index_below : (n from i at : ℕ) → slice_get (those from n) i ≡ Some at → at < from + n
  index_below zero from i at is = absurd (none-some at is)
  index_below (suc n) from i at is = elim (one_more (test from) from (those (from + 1) n) i at is) [
    | inl first ↦ omega arith
    | inr later ↦ let low = index_below n (from + 1) later.0 at later.1 in omega arith
  ]
