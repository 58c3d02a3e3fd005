-- Lists of which at most one item passes a test.
use Rattle.std.proofs.Common.{◌≡◌, ◌<◌, ℕ, zero, suc, ◌+◌, ◌||◌, ◌⊎◌, Bool, true, false, cond, List, [], ◌∷◌, ◌++◌, length, drop, get_or, map, Some, None, refl, inl, inr, sym, ap, ◌∙◌, arith}
use Rattle.std.specs.List.{list_any, position_from, slice_get}
use Rattle.std.specs.Prelude.{slice_set}
use Rattle.std.proofs.lemmas.Bool.{both_ways, cases_Bool, cond-false, cond-true, false_from_ne_true, or_from, or_parts}
use Rattle.std.proofs.lemmas.List.{drop_more}
use Rattle.std.proofs.lemmas.List.Folds.{list_any-append, list_any_at}
use Rattle.std.proofs.lemmas.Option.{same_Some}
use Rattle.pl_migrate.specs.PortGrants.{AtMostOne}

module _ {T : Type 0} (test : T → Bool) where
  -- Looked for from the front.

  -- where one item passes, it is the first that does, since it is the only one
  pub found_at : (k : ℕ) (xs : List T) (i : ℕ) (d : T) → AtMostOne test xs → i < length xs → test (get_or xs i d) ≡ true →
      position_from test k xs ≡ Some (k + i)
  found_at k [] i d one within passes = absurd (omega arith)
  found_at k (x ∷ xs) zero d one within passes =
      cond-true (test x) (Some k) (position_from test (k + 1) xs) passes ∙ ap (λ (n : ℕ). Some n) (omega arith)
  found_at k (x ∷ xs) (suc i) d one within passes =
      let inside : i < length xs = omega arith in
      let later : list_any test xs ≡ true = list_any_at test xs i d inside passes in
      let here : test x ≡ false = false_from_ne_true (test x) (λ t. both_ways (list_any test xs) (one.0 t) later) in
      cond-false (test x) (Some k) (position_from test (k + 1) xs) here ∙ found_at (k + 1) xs i d one.1 inside passes
      ∙ ap (λ (n : ℕ). Some n) (omega arith)

  pub found_nowhere : (k : ℕ) (xs : List T) → list_any test xs ≡ false → position_from test k xs ≡ None
  found_nowhere k [] none = refl
  found_nowhere k (x ∷ xs) none =
      let parts = or_parts (test x) (list_any test xs) none in
      cond-false (test x) (Some k) (position_from test (k + 1) xs) parts.0 ∙ found_nowhere (k + 1) xs parts.1

  pub none_where_unfound : (k : ℕ) (xs : List T) → position_from test k xs ≡ None → list_any test xs ≡ false
  none_where_unfound k [] unfound = refl
  none_where_unfound k (x ∷ xs) unfound = elim (cases_Bool (test x)) [
    | inl passes ↦ absurd (let e = sym (cond-true (test x) (Some k) (position_from test (k + 1) xs) passes) ∙ unfound in cc)
    | inr fails ↦ or_from (test x) (list_any test xs) fails
        (none_where_unfound (k + 1) xs (sym (cond-false (test x) (Some k) (position_from test (k + 1) xs) fails) ∙ unfound))
  ]

  -- a search from the back, one item further
  pub none_further : (xs : List T) (n m : ℕ) (x : T) → m ≡ n + 1 → n < length xs → x ≡ get_or xs n x → test x ≡ false →
      list_any test (drop m xs) ≡ false → list_any test (drop n xs) ≡ false
  none_further xs n m x next within is fails none =
      ap (list_any test) (drop_more xs n x within)
      ∙ or_from (test (get_or xs n x)) (list_any test (drop (n + 1) xs)) (sym (ap test is) ∙ fails)
      (sym (ap (λ k. list_any test (drop k xs)) next) ∙ none)

  -- One more item.

  pub at_most_push : (xs : List T) (y : T) → (test y ≡ true → list_any test xs ≡ false) → AtMostOne test xs → AtMostOne test (xs ++ y ∷ [])
  at_most_push [] y fresh one = ((λ t. refl), tt)
  at_most_push (x ∷ xs) y fresh one = (
    (λ t.
        let apart : test y ≡ false = false_from_ne_true (test y) (λ u. both_ways (test x) (or_parts (test x) (list_any test xs) (fresh u)).0 t) in
        list_any-append test xs (y ∷ []) ∙ or_from (list_any test xs) (test y || false) (one.0 t) (or_from (test y) false apart refl)),
    at_most_push xs y (λ u. (or_parts (test x) (list_any test xs) (fresh u)).1) one.1,
  )

  pub position_push : (k : ℕ) (xs : List T) (y : T) → position_from test k xs ≡ None → test y ≡ true →
      position_from test k (xs ++ y ∷ []) ≡ Some (k + length xs)
  position_push k [] y unfound passes = cond-true (test y) (Some k) None passes ∙ ap (λ (n : ℕ). Some n) (omega arith)
  position_push k (x ∷ xs) y unfound passes = elim (cases_Bool (test x)) [
    | inl found ↦ absurd (let e = sym (cond-true (test x) (Some k) (position_from test (k + 1) xs) found) ∙ unfound in cc)
    | inr fails ↦ cond-false (test x) (Some k) (position_from test (k + 1) (xs ++ y ∷ [])) fails
        ∙ position_push (k + 1) xs y (sym (cond-false (test x) (Some k) (position_from test (k + 1) xs) fails) ∙ unfound) passes
        ∙ ap (λ (n : ℕ). Some n) (omega arith)
  ]

  -- Another item at a place.

  none_set : (xs : List T) (i : ℕ) (old new : T) → slice_get xs i ≡ Some old → (test new ≡ true → test old ≡ true) →
      list_any test xs ≡ false → list_any test (slice_set xs i new) ≡ false
  none_set [] i old new at fewer none = none
  none_set (x ∷ xs) zero old new at fewer none =
      let parts = or_parts (test x) (list_any test xs) none in
      let is : x ≡ old = same_Some _ _ at in
      or_from (test new) (list_any test xs)
      (false_from_ne_true (test new) (λ t. both_ways (test x) parts.0 (ap test is ∙ fewer t))) parts.1
  none_set (x ∷ xs) (suc i) old new at fewer none =
      let parts = or_parts (test x) (list_any test xs) none in
      or_from (test x) (list_any test (slice_set xs i new)) parts.0 (none_set xs i old new at fewer parts.1)

  pub at_most_set : (xs : List T) (i : ℕ) (old new : T) → slice_get xs i ≡ Some old → (test new ≡ true → test old ≡ true) →
      AtMostOne test xs → AtMostOne test (slice_set xs i new)
  at_most_set [] i old new at fewer one = tt
  at_most_set (x ∷ xs) zero old new at fewer one =
      let is : x ≡ old = same_Some _ _ at in
      ((λ t. one.0 (ap test is ∙ fewer t)), one.1)
  at_most_set (x ∷ xs) (suc i) old new at fewer one =
      ((λ t. none_set xs i old new at fewer (one.0 t)), at_most_set xs i old new at fewer one.1)

  pub position_set : (k : ℕ) (xs : List T) (i : ℕ) (old new : T) → slice_get xs i ≡ Some old → test new ≡ test old →
      position_from test k (slice_set xs i new) ≡ position_from test k xs
  position_set k [] i old new at alike = refl
  position_set k (x ∷ xs) zero old new at alike =
      let is : x ≡ old = same_Some _ _ at in
      ap (λ b. cond b (Some k) (position_from test (k + 1) xs)) (alike ∙ sym (ap test is))
  position_set k (x ∷ xs) (suc i) old new at alike =
      ap (λ o. cond (test x) (Some k) o) (position_set (k + 1) xs i old new at alike)

  -- where none passes, one is the only one
  at_most_none : (xs : List T) → list_any test xs ≡ false → AtMostOne test xs
  at_most_none [] none = tt
  at_most_none (x ∷ xs) none = let parts = or_parts (test x) (list_any test xs) none in ((λ t. parts.1), at_most_none xs parts.1)

  at_most_only : (xs : List T) (i : ℕ) (new : T) → list_any test xs ≡ false → AtMostOne test (slice_set xs i new)
  at_most_only [] i new none = tt
  at_most_only (x ∷ xs) zero new none = let parts = or_parts (test x) (list_any test xs) none in ((λ t. parts.1), at_most_none xs parts.1)
  at_most_only (x ∷ xs) (suc i) new none =
      let parts = or_parts (test x) (list_any test xs) none in ((λ t. absurd (both_ways (test x) parts.0 t)), at_most_only xs i new parts.1)

  pub at_most_placed : (xs : List T) (i : ℕ) (old new : T) → slice_get xs i ≡ Some old → (test new ≡ true → (test old ≡ true) ⊎ (list_any test xs ≡ false)) →
      AtMostOne test xs → AtMostOne test (slice_set xs i new)
  at_most_placed xs i old new at fits one = elim (cases_Bool (test new)) [
    | inl passes ↦ elim (fits passes) [
      | inl passed ↦ at_most_set xs i old new at (λ t. passed) one
      | inr none ↦ at_most_only xs i new none
    ]
    | inr fails ↦ at_most_set xs i old new at (λ t. absurd (both_ways (test new) fails t)) one
  ]

  pub position_only : (k : ℕ) (xs : List T) (i : ℕ) (old new : T) → slice_get xs i ≡ Some old → position_from test k xs ≡ None → test new ≡ true →
      position_from test k (slice_set xs i new) ≡ Some (k + i)
  position_only k [] i old new at unfound passes = absurd (let e = at in cc)
  position_only k (x ∷ xs) zero old new at unfound passes = cond-true (test new) (Some k) (position_from test (k + 1) xs) passes
      ∙ ap (λ (n : ℕ). Some n) (omega arith)
  position_only k (x ∷ xs) (suc i) old new at unfound passes = elim (cases_Bool (test x)) [
    | inl found ↦ absurd (let e = sym (cond-true (test x) (Some k) (position_from test (k + 1) xs) found) ∙ unfound in cc)
    | inr fails ↦ cond-false (test x) (Some k) (position_from test (k + 1) (slice_set xs i new)) fails
        ∙ position_only (k + 1) xs i old new at (sym (cond-false (test x) (Some k) (position_from test (k + 1) xs) fails) ∙ unfound) passes
        ∙ ap (λ (n : ℕ). Some n) (omega arith)
  ]

-- The same of other items that pass another test alike.

module _ {T U : Type 0} (f : T → U) (test : T → Bool) (other : U → Bool) (alike : (x : T) → other (f x) ≡ test x) where
  pub any_mapped : (xs : List T) → list_any other (map f xs) ≡ list_any test xs
  any_mapped [] = refl
  any_mapped (x ∷ xs) = ap (λ b. b || list_any other (map f xs)) (alike x) ∙ ap (λ b. test x || b) (any_mapped xs)

  pub position_mapped : (k : ℕ) (xs : List T) → position_from other k (map f xs) ≡ position_from test k xs
  position_mapped k [] = refl
  position_mapped k (x ∷ xs) =
      ap (λ b. cond b (Some k) (position_from other (k + 1) (map f xs))) (alike x) ∙ ap (λ o. cond (test x) (Some k) o) (position_mapped (k + 1) xs)

  pub at_most_mapped : (xs : List T) → AtMostOne test xs → AtMostOne other (map f xs)
  at_most_mapped [] one = tt
  at_most_mapped (x ∷ xs) one = ((λ t. any_mapped xs ∙ one.0 (sym (alike x) ∙ t)), at_most_mapped xs one.1)
