-- Addresses of a list that pass a test: all at the front, none, or the first.
use Rattle.std.proofs.Common.{◌≡◌, ◌<◌, ◌≤◌, ℕ, ◌+◌, Bool, true, false, cond, not, List, [], ◌∷◌, ◌++◌, length, Option, Some, refl, inl, inr, sym, ap, subst, ◌∙◌, arith}
use Rattle.std.specs.List.{AllByRecursion, filter, slice_get}
use Rattle.std.proofs.lemmas.Bool.{cases_Bool, cond-false, cond-true}
use Rattle.std.proofs.lemmas.Option.{same_Some}
use Rattle.pl_pmac.specs.declared.pmac.Pmac.{Pmac}
use Rattle.pl_layouts.specs.Equality.{same_pmac}
use Rattle.pl_layouts.proofs.Exports.{pmac_itself}
use Rattle.pl_switch_rule.specs.Granting.{without}

pub all_pass : (test : Pmac → Bool) (xs : List Pmac) → AllByRecursion (λ x. test x ≡ true) xs → filter test xs ≡ xs
all_pass test [] all = refl
all_pass test (x ∷ xs) all = cond-true (test x) (x ∷ filter test xs) (filter test xs) all.0 ∙ ap (λ ys. x ∷ ys) (all_pass test xs all.1)

pub none_pass : (test : Pmac → Bool) (xs : List Pmac) → AllByRecursion (λ x. test x ≡ false) xs → filter test xs ≡ []
none_pass test [] all = refl
none_pass test (x ∷ xs) all = cond-false (test x) (x ∷ filter test xs) (filter test xs) all.0 ∙ none_pass test xs all.1

pub same_pass : (test other : Pmac → Bool) (xs : List Pmac) → AllByRecursion (λ x. other x ≡ test x) xs → filter other xs ≡ filter test xs
same_pass test other [] all = refl
same_pass test other (x ∷ xs) all =
    ap (λ b. cond b (x ∷ filter other xs) (filter other xs)) all.0 ∙ ap (λ ys. cond (test x) (x ∷ ys) ys) (same_pass test other xs all.1)

pub all_both : {X : Type 0} (P Q R : X → Type 0) → ((x : X) → P x → Q x → R x) → (xs : List X) → AllByRecursion P xs → AllByRecursion Q xs → AllByRecursion R xs
all_both P Q R each [] ps qs = tt
all_both P Q R each (x ∷ xs) ps qs = (each x ps.0 qs.0, all_both P Q R each xs ps.1 qs.1)

-- Without one address.

abbrev pub IsOther : Pmac → Pmac → Type 0
IsOther x y = same_pmac y x ≡ false

pub no_longer : (x : Pmac) (xs : List Pmac) → length (without x xs) ≤ length xs
no_longer x [] = omega arith
no_longer x (y ∷ ys) = elim (same_pmac y x) as (λ b. length (cond (not b) (y ∷ without x ys) (without x ys)) ≤ length (y ∷ ys)) [
  | true ↦ let less = no_longer x ys in omega arith
  | false ↦ let less = no_longer x ys in omega arith
]

-- where none is missing, it was not there
pub was_absent : (x : Pmac) (xs : List Pmac) → length (without x xs) ≡ length xs → AllByRecursion (IsOther x) xs
was_absent x [] same = tt
was_absent x (y ∷ ys) same = elim (cases_Bool (same_pmac y x)) [
  | inl is ↦ absurd (
      let less = no_longer x ys in
      let gone = ap (λ b. length (cond (not b) (y ∷ without x ys) (without x ys))) is in omega arith)
  | inr other ↦
      let kept = ap (λ b. length (cond (not b) (y ∷ without x ys) (without x ys))) other in
      (other, was_absent x ys (omega arith))
]

pub without_absent : (x : Pmac) (xs : List Pmac) → AllByRecursion (IsOther x) xs → without x xs ≡ xs
without_absent x [] all = refl
without_absent x (y ∷ ys) all = ap (λ b. cond (not b) (y ∷ without x ys) (without x ys)) all.0 ∙ ap (λ zs. y ∷ zs) (without_absent x ys all.1)

pub absent_without : (x : Pmac) (xs : List Pmac) → AllByRecursion (IsOther x) (without x xs)
absent_without x [] = tt
absent_without x (y ∷ ys) = elim (cases_Bool (same_pmac y x)) [
  | inl same ↦ subst (λ b. AllByRecursion (IsOther x) (cond (not b) (y ∷ without x ys) (without x ys))) (sym same) (absent_without x ys)
  | inr other ↦ subst (λ b. AllByRecursion (IsOther x) (cond (not b) (y ∷ without x ys) (without x ys))) (sym other) (other, absent_without x ys)
]

pub first_gone : (x : Pmac) (xs : List Pmac) → without x (x ∷ xs) ≡ without x xs
first_gone x xs = ap (λ b. cond (not b) (x ∷ without x xs) (without x xs)) (pmac_itself x)

pub record HasFirst (xs : List Pmac) (x : Pmac) : Type 0 where
  pub rest : List Pmac
  pub is : xs ≡ x ∷ rest

pub has_first : (xs : List Pmac) (x : Pmac) → slice_get xs 0 ≡ Some x → HasFirst xs x
has_first [] x first = absurd (let e = first in cc)
has_first (y ∷ ys) x first = record { rest = ys; is = ap (λ z. z ∷ ys) (same_Some _ _ first) }
