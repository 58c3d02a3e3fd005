-- What is known of numbers, tests of lists, and what the manager knows of neighbours.
use Rattle.std.proofs.Common.{◌≡◌, ℕ, ◌==◌, Bool, true, false, cond, Option, Some, refl, sym, ◌∙◌, subst, eqb-true, true≢false}
use Rattle.std.proofs.lemmas.Option.{same_Some}
use Rattle.pl_frame.specs.declared.address.SwitchId.{SwitchId}
use Rattle.pl_layouts.specs.Equality.{same_switch}
use Rattle.pl_layouts.specs.Placement.{is_known}
use Rattle.pl_manager_rule.proofs.Exports.{same_is}

pub known_other : (o : Option ℕ) (m n : ℕ) → o ≡ Some m → (m ≡ n → ⊥) → is_known o n ≡ false
known_other o m n e differ = subst (λ x. is_known x n ≡ false) (sym e) (by (m == n) refl)
  where
    by : (b : Bool) → (m == n) ≡ b → b ≡ false
    by true h = absurd (differ (eqb-true m n h))
    by false h = refl

pub not_both : (b : Bool) → b ≡ true → b ≡ false → ⊥
not_both b is other = true≢false (sym is ∙ other)

pub differ_not_same : (a b : SwitchId) → (a ≡ b → ⊥) → same_switch a b ≡ false
differ_not_same a b differ = by (same_switch a b) refl
  where
    by : (x : Bool) → same_switch a b ≡ x → x ≡ false
    by true h = absurd (differ (same_is a b h))
    by false h = refl

-- ---- what the manager knows

-- ---- tables by levels
pub at_edge : (o : Option ℕ) (a b c : Bool) → o ≡ Some 0 → cond (is_known o 0) a (cond (is_known o 1) b (cond (is_known o 2) c false)) ≡ a
at_edge o a b c e = subst (λ x. cond (is_known x 0) a (cond (is_known x 1) b (cond (is_known x 2) c false)) ≡ a) (sym e) refl

pub at_aggregation : (o : Option ℕ) (a b c : Bool) → o ≡ Some 1 → cond (is_known o 0) a (cond (is_known o 1) b (cond (is_known o 2) c false)) ≡ b
at_aggregation o a b c e = subst (λ x. cond (is_known x 0) a (cond (is_known x 1) b (cond (is_known x 2) c false)) ≡ b) (sym e) refl

pub at_core : (o : Option ℕ) (a b c : Bool) → o ≡ Some 2 → cond (is_known o 0) a (cond (is_known o 1) b (cond (is_known o 2) c false)) ≡ c
at_core o a b c e = subst (λ x. cond (is_known x 0) a (cond (is_known x 1) b (cond (is_known x 2) c false)) ≡ c) (sym e) refl

pub up_at_one : (o : Option ℕ) (b c : Bool) → o ≡ Some 1 → cond (is_known o 1) b (cond (is_known o 2) c false) ≡ b
up_at_one o b c e = subst (λ x. cond (is_known x 1) b (cond (is_known x 2) c false) ≡ b) (sym e) refl

pub up_at_two : (o : Option ℕ) (b c : Bool) → o ≡ Some 2 → cond (is_known o 1) b (cond (is_known o 2) c false) ≡ c
up_at_two o b c e = subst (λ x. cond (is_known x 1) b (cond (is_known x 2) c false) ≡ c) (sym e) refl

pub level_differs : (o : Option ℕ) (m n : ℕ) → o ≡ Some m → o ≡ Some n → (m ≡ n → ⊥) → ⊥
level_differs o m n one other differ = differ (same_Some m n (sym one ∙ other))
