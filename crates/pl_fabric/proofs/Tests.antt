-- Tests of the numbers of a range.
use Rattle.std.proofs.Common.{◌≡◌, ℕ, zero, suc, ◌+◌, ◌<◌, ◌≤◌, Bool, true, false, ◌||◌, refl, ◌∙◌, ap, inl, inr, arith}
use Rattle.std.specs.List.{list_any, range_with_len}
use Rattle.std.proofs.lemmas.Bool.{cases_eq}
use Rattle.pl_lemmas.proofs.Exports.{or_true}

module _ (test : ℕ → Bool) where
  any_from : (n from k : ℕ) → from ≤ k → k < from + n → test k ≡ true → list_any test (range_with_len from n) ≡ true
  any_from zero from k low high passes = absurd (omega arith)
  any_from (suc n) from k low high passes = elim (cases_eq from k) [
    | inl same ↦ ap (λ b. b || list_any test (range_with_len (from + 1) n)) (ap test same ∙ passes)
    | inr other ↦ ap (λ b. test from || b) (any_from n (from + 1) k (omega arith) (omega arith) passes) ∙ or_true (test from)
  ]

  none_from : (n from : ℕ) → ((k : ℕ) → from ≤ k → k < from + n → test k ≡ false) → list_any test (range_with_len from n) ≡ false
  none_from zero from fails = refl
  none_from (suc n) from fails =
      ap (λ b. b || list_any test (range_with_len (from + 1) n)) (fails from (omega arith) (omega arith))
      ∙ none_from n (from + 1) (λ k low high. fails k (omega arith) (omega arith))

  pub any_below : (n k : ℕ) → k < n → test k ≡ true → list_any test (range_with_len 0 n) ≡ true
  any_below n k high passes = any_from n 0 k (omega arith) (omega arith) passes

  pub none_below : (n : ℕ) → ((k : ℕ) → k < n → test k ≡ false) → list_any test (range_with_len 0 n) ≡ false
  none_below n fails = none_from n 0 (λ k low high. fails k (omega arith))
