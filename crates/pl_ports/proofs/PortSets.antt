-- The set of the ports of a switch that pass a test, one port further.
use Rattle.std.proofs.Common.{◌≡◌, ℕ, zero, suc, ◌+◌, ◌<◌, ◌≤◌, Bool, true, false, cond, List, [], ◌∷◌, ◌++◌, refl, ap, ◌∙◌, arith}
use Rattle.std.specs.Prelude.{if◌then◌else◌}
use Rattle.std.specs.List.{AllByRecursion, filter, range_with_len}
use Rattle.std.specs.BTreeSet.{insert_key}
use Rattle.std.specs.Ordering.{nat_cmp}
use Rattle.pl_node.specs.PortRecords.{ports_of_switch}
use Rattle.pl_steps.proofs.Exports.{passing_ports_more, ports_more}

module _ (test : ℕ → Bool) where
  kept_below : (a n x : ℕ) → a + n ≤ x → AllByRecursion (λ y. y < x) (filter test (range_with_len a n))
  kept_below a zero x h = tt
  kept_below a (suc n) x h =
      elim (test a) as (λ b. AllByRecursion (λ y. y < x) (cond b (a ∷ filter test (range_with_len (a + 1) n)) (filter test (range_with_len (a + 1) n)))) [
        | true ↦ (omega arith, kept_below (a + 1) n x (omega arith))
        | false ↦ kept_below (a + 1) n x (omega arith)
      ]

  filter_last : (xs : List ℕ) (x : ℕ) → filter test (xs ++ x ∷ []) ≡ filter test xs ++ cond (test x) (x ∷ []) []
  filter_last [] x = refl
  filter_last (y ∷ ys) x =
      elim (test y) as (λ b. cond b (y ∷ filter test (ys ++ x ∷ [])) (filter test (ys ++ x ∷ [])) ≡ cond b (y ∷ filter test ys) (filter test ys) ++ cond (test x) (x ∷ []) []) [
        | true ↦ ap (λ l. y ∷ l) (filter_last ys x)
        | false ↦ filter_last ys x
      ]

pub set_further : (test : ℕ → Bool) (n : ℕ) (passes : Bool) (set new : List ℕ) → new ≡ (if passes then insert_key nat_cmp set n else set) →
    passes ≡ test n → set ≡ filter test (ports_of_switch n) → new ≡ filter test (ports_of_switch (n + 1))
set_further test n passes set new is here so_far =
    is ∙ ap (λ b. if b then insert_key nat_cmp set n else set) here
    ∙ ap (λ s. if test n then insert_key nat_cmp s n else s) so_far ∙ passing_ports_more test n
