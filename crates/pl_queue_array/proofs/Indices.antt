-- The first index that passes, and tests that agree.
use Rattle.std.proofs.Common.{◌≡◌, ℕ, zero, suc, ◌+◌, ◌-◌, ◌<◌, ◌≤◌, Bool, true, false, cond, List, [], ◌∷◌, Option, None, Some, MatchOption, sym, refl, ap, subst, ◌∙◌, inl, inr, arith}
use Rattle.std.specs.List.{find, range_with_len}
use Rattle.std.proofs.lemmas.Bool.{cases_eq}
use Rattle.pl_queues.specs.Queues.{next_index}
use Rattle.pl_queue_array.specs.Bits.{IsLeast, IsNextIndex}

-- tests that agree find the same
pub find_same : {A : Type 0} (f g : A → Bool) → ((x : A) → f x ≡ g x) → (xs : List A) → find f xs ≡ find g xs
find_same f g same [] = refl
find_same f g same (x ∷ xs) = ap (λ b. cond b (Some x) (find f xs)) (same x) ∙ ap (λ o. cond (g x) (Some x) o) (find_same f g same xs)

module _ (test : ℕ → Bool) where
  find_least : (n from at : ℕ) → IsLeast test from at → at < from + n → find test (range_with_len from n) ≡ Some at
  find_least zero from at h near = absurd (omega (arith, h.reached))
  find_least (suc n) from at h near =
      elim (cases_eq from at) [
        | inl same ↦ ap (λ b. cond b (Some from) (find test (range_with_len (from + 1) n))) (ap test same ∙ h.passes) ∙ ap (λ k. Some k) same
        | inr other ↦
            ap (λ b. cond b (Some from) (find test (range_with_len (from + 1) n))) (h.least from (omega arith) (omega (arith, h.reached)))
            ∙ find_least n (from + 1) at (record { reached = omega (arith, h.reached); passes = h.passes; least = λ k low high. h.least k (omega arith) high }) (omega arith)
      ]

  find_nothing : (n from : ℕ) → ((k : ℕ) → from ≤ k → test k ≡ false) → find test (range_with_len from n) ≡ None
  find_nothing zero from h = refl
  find_nothing (suc n) from h =
      ap (λ b. cond b (Some from) (find test (range_with_len (from + 1) n))) (h from (omega arith))
      ∙ find_nothing n (from + 1) (λ k low. h k (omega arith))

  -- an answer that is the least, or none where none passes, is the next index
  pub next_index_is : (n from : ℕ) (answer : Option ℕ) → IsNextIndex test from answer → ((at : ℕ) → test at ≡ true → at < n)
      → answer ≡ next_index test n from
  next_index_is n from None h within = sym (find_nothing (n - from) from h)
  next_index_is n from (Some at) h within =
      let low = h.reached in
      let high : at < n = within at h.passes in
      sym (find_least (n - from) from at h (omega arith))

  -- an answer of a range that begins one index later is one of the whole, where the first index does not pass
  later : (n from : ℕ) (o : Option ℕ) → test from ≡ false
      → MatchOption o ((k : ℕ) → from + 1 ≤ k → k < from + 1 + n → test k ≡ false) (λ at. IsLeast test (from + 1) at × (at < from + 1 + n))
      → MatchOption o ((k : ℕ) → from ≤ k → k < from + suc n → test k ≡ false) (λ at. IsLeast test from at × (at < from + suc n))
  later n from None e h = λ k low high. elim (cases_eq k from) [
    | inl same ↦ ap test same ∙ e
    | inr other ↦ h k (omega arith) (omega arith)
  ]
  later n from (Some at) e h = (
    record {
      reached = omega (arith, h.0.reached);
      passes = h.0.passes;
      least = λ k low high. elim (cases_eq k from) [
        | inl same ↦ ap test same ∙ e
        | inr other ↦ h.0.least k (omega arith) high
      ];
    },
    omega (arith, h.1),
  )

  found_is_least : (n from : ℕ)
      → MatchOption (find test (range_with_len from n)) ((k : ℕ) → from ≤ k → k < from + n → test k ≡ false) (λ at. IsLeast test from at × (at < from + n))
  found_is_least zero from = λ k low high. absurd (omega arith)
  found_is_least (suc n) from =
      elim (test from) as (λ b. test from ≡ b
      → MatchOption (cond b (Some from) (find test (range_with_len (from + 1) n))) ((k : ℕ) → from ≤ k → k < from + suc n → test k ≡ false)
      (λ at. IsLeast test from at × (at < from + suc n))) [
        | true ↦ λ e. (record { reached = omega arith; passes = e; least = λ k low high. absurd (omega arith) }, omega arith)
        | false ↦ λ e. later n from (find test (range_with_len (from + 1) n)) e (found_is_least n (from + 1))
      ] refl

  -- the next index is the least that passes, and below n; where there is none, none of those below n passes
  pub next_index_is_least : (n from : ℕ) (answer : Option ℕ) → answer ≡ next_index test n from
      → MatchOption answer ((k : ℕ) → from ≤ k → k < n → test k ≡ false) (λ at. IsLeast test from at × (at < n))
  next_index_is_least n from answer e =
      subst (λ o. MatchOption o ((k : ℕ) → from ≤ k → k < n → test k ≡ false) (λ at. IsLeast test from at × (at < n))) (sym e)
      (within n from (find test (range_with_len from (n - from))) (found_is_least (n - from) from))
    where
      within : (n from : ℕ) (o : Option ℕ)
          → MatchOption o ((k : ℕ) → from ≤ k → k < from + (n - from) → test k ≡ false) (λ at. IsLeast test from at × (at < from + (n - from)))
          → MatchOption o ((k : ℕ) → from ≤ k → k < n → test k ≡ false) (λ at. IsLeast test from at × (at < n))
      within n from None h = λ k low high. h k low (omega arith)
      within n from (Some at) h = (h.0, omega (arith, h.0.reached, h.1))
