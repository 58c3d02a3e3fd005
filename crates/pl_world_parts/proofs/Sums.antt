-- Sums over numbers that follow each other.
use Rattle.std.proofs.Common.{◌≡◌, ℕ, ◌+◌, ◌<◌, ◌≤◌, zero, suc, sum_by, refl, sym, ap, ◌∙◌, inl, inr, add-one, zero-add, arith}
use Rattle.std.specs.List.{range_with_len}
use Rattle.std.proofs.lemmas.Bool.{cases_eq}
use Rattle.std.proofs.lemmas.List.{map-id}
use Rattle.std.proofs.lemmas.List.FromFn.{sum_by-map-range_with_len_more}
use Rattle.std.proofs.lemmas.List.Sums.{sum_by-cons}

module _ (f : ℕ → ℕ) where
  -- of n numbers, from `from` on
  abbrev pub sum_from : ℕ → ℕ → ℕ
  sum_from from n = sum_by f (range_with_len from n)

  pub sum_first : (n from : ℕ) → sum_from from (suc n) ≡ f from + sum_from (from + 1) n
  sum_first n from = sum_by-cons f from (range_with_len (from + 1) n)

  pub sum_more : (n from : ℕ) → sum_from from (n + 1) ≡ sum_from from n + f (from + n)
  sum_more n from =
      ap (sum_by f) (sym (map-id (range_with_len from (n + 1)))) ∙ sum_by-map-range_with_len_more f (λ x. x) from n (from + n) refl
      ∙ ap (λ xs. sum_by f xs + f (from + n)) (map-id (range_with_len from n))

  pub sum_last : (n : ℕ) → sum_from 0 (suc n) ≡ sum_from 0 n + f n
  sum_last n = ap (sum_from 0) (sym (add-one n)) ∙ sum_more n 0 ∙ ap (λ m. sum_from 0 n + f m) (zero-add n)

  pub sum_next : (n : ℕ) → sum_from 0 (n + 1) ≡ sum_from 0 n + f n
  sum_next n = sum_more n 0 ∙ ap (λ m. sum_from 0 n + f m) (zero-add n)

  -- one of them is no more than all
  pub one_le_sum : (n from at : ℕ) → from ≤ at → at < from + n → f at ≤ sum_from from n
  one_le_sum zero from at low high = absurd (omega (arith, low, high))
  one_le_sum (suc n) from at low high =
      let first = sum_first n from in
      elim (cases_eq from at) [
        | inl same ↦ let here : f from ≡ f at = ap f same in omega (arith, first, here)
        | inr other ↦ let later = one_le_sum n (from + 1) at (omega (arith, low, other)) (omega (arith, high)) in omega (arith, first, later)
      ]

module _ (f g : ℕ → ℕ) where
  pub sums_same : (n from : ℕ) → ((m : ℕ) → from ≤ m → m < from + n → f m ≡ g m) → sum_from f from n ≡ sum_from g from n
  sums_same zero from same = refl
  sums_same (suc n) from same =
      let left = sum_first f n from in
      let right = sum_first g n from in
      let here = same from (omega arith) (omega arith) in
      let rest = sums_same n (from + 1) (λ m low high. same m (omega (arith, low)) (omega (arith, high))) in
      omega (arith, left, right, here, rest)

  -- where they differ at one number alone, the sums differ by what they are there
  pub sums_changed : (n from at : ℕ) → from ≤ at → at < from + n → ((m : ℕ) → from ≤ m → m < from + n → (m ≡ at → ⊥) → f m ≡ g m) →
      sum_from f from n + g at ≡ sum_from g from n + f at
  sums_changed zero from at low high same = absurd (omega (arith, low, high))
  sums_changed (suc n) from at low high same =
      let left = sum_first f n from in
      let right = sum_first g n from in
      elim (cases_eq from at) [
        | inl here ↦
            let f_here : f from ≡ f at = ap f here in
            let g_here : g from ≡ g at = ap g here in
            let rest = sums_same n (from + 1) (λ m above below. same m (omega (arith, above)) (omega (arith, below)) (λ e. omega (arith, e, here, above))) in
            omega (arith, left, right, f_here, g_here, rest)
        | inr other ↦
            let first = same from (omega arith) (omega arith) other in
            let rest = sums_changed n (from + 1) at (omega (arith, low, other)) (omega (arith, high))
            (λ m above below apart. same m (omega (arith, above)) (omega (arith, below)) apart) in
            omega (arith, left, right, first, rest)
      ]
