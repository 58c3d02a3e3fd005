-- A row in which the value of one more switch becomes true.
use Rattle.std.proofs.Common.{◌≡◌, ◌∙◌, ◌||◌, ℕ, zero, suc, Bool, true, false, List, [], ◌∷◌, map, slice_set, Some, None, refl, sym, ap, subst}
use Rattle.std.specs.declared.cmp.Ordering.TheVariants.{Equal, Less}
use Rattle.std.specs.List.{AllByRecursion, list_any, slice_get}
use Rattle.std.specs.List.Sorted.{IsStrictlySortedBy}
use Rattle.std.proofs.lemmas.Bool.{false≢true}
use Rattle.std.proofs.lemmas.Cmp.{tied_itself}
use Rattle.pl_lemmas.proofs.Exports.{or_false, or_true}
use Rattle.pl_frame.specs.declared.address.SwitchId.{SwitchId}
use Rattle.pl_layouts.specs.Equality.{same_switch}
use Rattle.pl_layouts.proofs.Exports.{switch_itself}
use Rattle.pl_node.specs.ManagerViews.{id_cmp}
use Rattle.pl_node.proofs.Exports.{got_among, holds_of, id_total}
use Rattle.pl_manager_rule.proofs.Exports.{same_is, switch_turned}

-- of two switches in order
pub apart : (x y : SwitchId) → id_cmp x y ≡ Less → same_switch x y ≡ false
apart x y less = by (same_switch x y) refl
  where
    by : (b : Bool) → same_switch x y ≡ b → b ≡ false
    by false e = refl
    by true e = let none : Less ≡ Equal = sym less ∙ ap (id_cmp x) (sym (same_is x y e)) ∙ tied_itself id_total x in absurd (cc)

none_above : (x : SwitchId) (ys : List SwitchId) → AllByRecursion (λ y. id_cmp x y ≡ Less) ys → list_any (same_switch x) ys ≡ false
none_above x [] h = refl
none_above x (y ∷ ys) h = ap (λ b. b || list_any (same_switch x) ys) (apart x y h.0) ∙ none_above x ys h.1

pub unmarked : (test : SwitchId → Bool) (x : SwitchId) (es : List SwitchId) → list_any (same_switch x) es ≡ false →
    map (λ e. test e || same_switch e x) es ≡ map test es
unmarked test x [] none = refl
unmarked test x (e ∷ es) none = by (unmarked test x es) (same_switch x e) refl none
  where
    by : (list_any (same_switch x) es ≡ false → map (λ y. test y || same_switch y x) es ≡ map test es) → (b : Bool) → same_switch x e ≡ b →
        (b || list_any (same_switch x) es) ≡ false → map (λ y. test y || same_switch y x) (e ∷ es) ≡ map test (e ∷ es)
    by rest true here h = absurd (false≢true (sym h))
    by rest false here h =
        let head : (test e || same_switch e x) ≡ test e = ap (λ b. test e || b) (switch_turned e x ∙ here) ∙ sym (or_false (test e)) in
        λ i. head i ∷ rest h i

pub marked : (test : SwitchId → Bool) (x : SwitchId) (es : List SwitchId) (i : ℕ) → IsStrictlySortedBy id_cmp es → slice_get es i ≡ Some x →
    map (λ e. test e || same_switch e x) es ≡ slice_set (map test es) i true
unfolding IsStrictlySortedBy
marked test x [] zero sorted at = let none : None ≡ Some x = at in absurd (cc)
marked test x [] (suc i) sorted at = let none : None ≡ Some x = at in absurd (cc)
marked test x (e ∷ es) zero sorted at =
    let is : e ≡ x = let same : Some e ≡ Some x = at in cc in
    let head : (test e || same_switch e x) ≡ true = ap (λ b. test e || b) (ap (same_switch e) (sym is) ∙ switch_itself e) ∙ or_true (test e) in
    let rest : map (λ y. test y || same_switch y x) es ≡ map test es =
    unmarked test x es (subst (λ z. list_any (same_switch z) es ≡ false) is (none_above e es sorted.0)) in
    λ i. head i ∷ rest i
marked test x (e ∷ es) (suc i) sorted at =
    let below : same_switch e x ≡ false = apart e x (holds_of (λ z. id_cmp e z ≡ Less) x es sorted.0 (got_among es i x at)) in
    let head : (test e || same_switch e x) ≡ test e = ap (λ b. test e || b) below ∙ sym (or_false (test e)) in
    let rest = marked test x es i sorted.1 at in
    λ j. head j ∷ rest j
