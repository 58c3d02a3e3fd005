-- What stands at the place of an id, where no two of the ids are the same.
use Rattle.std.proofs.Common.{◌≡◌, ℕ, zero, suc, Bool, true, false, cond, List, [], ◌∷◌, Some, slice_get, refl, sym, ap, subst, ◌∙◌, arith, inl, inr, eqb-true}
use Rattle.std.proofs.lemmas.Bool.{cases_eq, cases_lt, cond-false, cond-true, false≢true, or_cases, or_left, or_parts, or_right}
use Rattle.std.proofs.lemmas.Option.{get_or_from_slice_get, same_Some, slice_get_within}
use Rattle.pl_frame.specs.declared.address.SwitchId.{SwitchId}
use Rattle.pl_layouts.specs.Equality.{same_switch}
use Rattle.pl_layouts.proofs.Exports.{switch_itself}
use Rattle.pl_wiring.specs.Plan.{IsPlan, Plan}
use Rattle.pl_gathering.specs.Orderly.{has}
use Rattle.pl_law_due.specs.Due.{at_id}

abbrev pub AreApart : List SwitchId → Type 0
AreApart ids = (s t : ℕ) (id : SwitchId) → slice_get ids s ≡ Some id → slice_get ids t ≡ Some id → s ≡ t

pub ids_apart : (plan : Plan) → IsPlan plan → AreApart plan.ids
ids_apart plan is s t id first second = elim (cases_eq s t) [
  | inl e ↦ e
  | inr differ ↦
      let there = slice_get_within plan.ids s id first in
      let also = slice_get_within plan.ids t id second in
      let at_s = ap (λ (x : SwitchId). x.0) (get_or_from_slice_get plan.ids s id id first) in
      let at_t = ap (λ (x : SwitchId). x.0) (get_or_from_slice_get plan.ids t id id second) in
      elim (cases_lt s t) [
        | inl less ↦ absurd (is.ids_apart s t id less also (at_s ∙ sym at_t))
        | inr more ↦ absurd (is.ids_apart t s id (omega (arith, more, differ)) there (at_t ∙ sym at_s))
      ]
]

pub switch_is : (s t : SwitchId) → same_switch s t ≡ true → s ≡ t
switch_is s t same = let n = eqb-true s.0 t.0 same in let made : ℕ → SwitchId = λ m. record { 0 = m } in ap made n

module _ {T : Type 0} (none : T) where
  pub at_named : (ids : List SwitchId) → AreApart ids → (at : ℕ → T) (s : ℕ) (id : SwitchId) → slice_get ids s ≡ Some id → at_id none ids at id ≡ at s
  at_named [] apart at s id named = let less = slice_get_within [] s id named in absurd (omega (arith, less))
  at_named (x ∷ ids) apart at zero id named =
      cond-true (same_switch id x) (at 0) (at_id none ids (λ n. at (suc n)) id) (subst (λ y. same_switch id y ≡ true) (sym (same_Some x id named)) (switch_itself id))
  at_named (x ∷ ids) apart at (suc s) id named =
      by (same_switch id x) refl (at_named ids (λ m n y first second. let e = apart (suc m) (suc n) y first second in omega (arith, e)) (λ n. at (suc n)) s id named)
    where
      by : (b : Bool) → same_switch id x ≡ b → at_id none ids (λ n. at (suc n)) id ≡ at (suc s) → cond b (at 0) (at_id none ids (λ n. at (suc n)) id) ≡ at (suc s)
      by true same rest = let e = apart (suc s) zero id named (ap Some (sym (switch_is id x same))) in absurd (omega (arith, e))
      by false other rest = rest

  pub at_stranger : (ids : List SwitchId) (at : ℕ → T) (id : SwitchId) → has ids id ≡ false → at_id none ids at id ≡ none
  at_stranger [] at id stranger = refl
  at_stranger (x ∷ ids) at id stranger =
      let two = or_parts (same_switch id x) (has ids id) stranger in
      cond-false (same_switch id x) (at 0) (at_id none ids (λ n. at (suc n)) id) two.0 ∙ at_stranger ids (λ n. at (suc n)) id two.1

pub named_there : (ids : List SwitchId) (s : ℕ) (id : SwitchId) → slice_get ids s ≡ Some id → has ids id ≡ true
named_there [] s id named = let less = slice_get_within [] s id named in absurd (omega (arith, less))
named_there (x ∷ ids) zero id named =
    or_left (same_switch id x) (has ids id) (subst (λ y. same_switch id y ≡ true) (sym (same_Some x id named)) (switch_itself id))
named_there (x ∷ ids) (suc s) id named = or_right (same_switch id x) (has ids id) (named_there ids s id named)

pub there_named : (ids : List SwitchId) (id : SwitchId) → has ids id ≡ true → (s : ℕ) × (slice_get ids s ≡ Some id)
there_named [] id is = absurd (false≢true is)
there_named (x ∷ ids) id is = elim (or_cases (same_switch id x) (has ids id) is) [
  | inl same ↦ (zero, ap Some (sym (switch_is id x same)))
  | inr behind ↦ let it = there_named ids id behind in (suc it.0, it.1)
]
