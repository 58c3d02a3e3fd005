-- A table of pseudo addresses, each of which is there once, as the list of what is seen of its entries.
use Rattle.std.proofs.Common.{◌≡◌, not, Bool, true, false, cond, List, [], ◌∷◌, ◌++◌, map, Some, None, filter, refl, sym, ap, ◌∙◌, subst}
use Rattle.std.specs.List.{AllByRecursion, IsDistinct, find}
use Rattle.std.specs.Option.{option_map}
use Rattle.std.specs.Map.{keys_of, lookup, remove_entry, set_value}
use Rattle.std.proofs.lemmas.Option.{none-some}
use Rattle.indexmap.specs.IndexMap.{insert_entry}
use Rattle.pl_pmac.specs.declared.pmac.Pmac.{Pmac}
use Rattle.pl_pmac.specs.contracts.pmac.PmacPartialEq.TheImpl.{eq-value}
use Rattle.pl_layouts.specs.Equality.{same_pmac}
use Rattle.pl_layouts.proofs.Exports.{pmac_is}
use Rattle.pl_manager_rule.proofs.Exports.{pmac_turned}
use Rattle.pl_registry.proofs.Keys.{keys_are}

module _ {X : Type 0} where
  -- how the table compares its keys
  pub looked_up : (x : Pmac) (es : List (Pmac × X)) → lookup (eq-value.it x) es ≡ lookup (same_pmac x) es
  looked_up x es = ap (λ same. lookup (same x) es) keys_are

  pub put_in : (x : Pmac) (k : X) (es : List (Pmac × X)) → insert_entry eq-value.it es x k ≡ insert_entry same_pmac es x k
  put_in x k es = ap (λ same. insert_entry same es x k) keys_are

  pub taken_out : (x : Pmac) (es : List (Pmac × X)) → remove_entry (eq-value.it x) es ≡ remove_entry (same_pmac x) es
  taken_out x es = ap (λ same. remove_entry (same x) es) keys_are

  pub each_once : (es : List (Pmac × X)) → IsDistinct eq-value.it (keys_of es) → IsDistinct same_pmac (keys_of es)
  each_once es once = subst (λ (same : Pmac → Pmac → Bool). IsDistinct same (keys_of es)) keys_are once

  -- a key that is not there
  pub absent : (x : Pmac) (es : List (Pmac × X)) → AllByRecursion (λ k. same_pmac x k ≡ false) (keys_of es) → lookup (same_pmac x) es ≡ None
  absent x [] all = refl
  absent x (e ∷ es) all = ap (λ b. cond b (Some e.1) (lookup (same_pmac x) es)) all.0 ∙ absent x es all.1

  -- goes last
  pub put_last : (x : Pmac) (k : X) (es : List (Pmac × X)) → lookup (same_pmac x) es ≡ None → insert_entry same_pmac es x k ≡ es ++ (x, k) ∷ []
  put_last x k [] h = refl
  put_last x k (e ∷ es) h = by (λ j. put_last x k es j) (same_pmac x e.0) h
    where
      by : (lookup (same_pmac x) es ≡ None → insert_entry same_pmac es x k ≡ es ++ (x, k) ∷ []) → (b : Bool) →
          cond b (Some e.1) (lookup (same_pmac x) es) ≡ None → cond b ((e.0, k) ∷ es) (e ∷ insert_entry same_pmac es x k) ≡ (e ∷ es) ++ (x, k) ∷ []
      by rest true j = absurd (cc)
      by rest false j = ap (λ fs. e ∷ fs) (rest j)

  -- and nothing is taken out for it
  pub none_left : (x : Pmac) (es : List (Pmac × X)) → lookup (same_pmac x) es ≡ None → remove_entry (same_pmac x) es ≡ es
  none_left x [] none = refl
  none_left x (e ∷ es) none = by (same_pmac x e.0) (none_left x es) none
    where
      by : (b : Bool) → (lookup (same_pmac x) es ≡ None → remove_entry (same_pmac x) es ≡ es) → cond b (Some e.1) (lookup (same_pmac x) es) ≡ None →
          cond b es (e ∷ remove_entry (same_pmac x) es) ≡ e ∷ es
      by true rest is = absurd (none-some e.1 (sym is))
      by false rest is = ap (λ left. e ∷ left) (rest is)

  -- one that is there is written in its place
  pub written : (x : Pmac) (old new : X) (es : List (Pmac × X)) → lookup (same_pmac x) es ≡ Some old →
      set_value (eq-value.it x) es new ≡ insert_entry same_pmac es x new
  written x old new es there = ap (λ same. set_value (same x) es new) keys_are ∙ in_place es there
    where
      in_place : (es : List (Pmac × X)) → lookup (same_pmac x) es ≡ Some old → set_value (same_pmac x) es new ≡ insert_entry same_pmac es x new
      in_place [] there = absurd (none-some old there)
      in_place (e ∷ es) there = by (in_place es) (same_pmac x e.0) there
        where
          by : (lookup (same_pmac x) es ≡ Some old → set_value (same_pmac x) es new ≡ insert_entry same_pmac es x new) → (b : Bool) →
              cond b (Some e.1) (lookup (same_pmac x) es) ≡ Some old →
              cond b ((e.0, new) ∷ es) (e ∷ set_value (same_pmac x) es new) ≡ cond b ((e.0, new) ∷ es) (e ∷ insert_entry same_pmac es x new)
          by rest true j = refl
          by rest false j = ap (λ fs. e ∷ fs) (rest j)

-- ---- what is seen of the entries
abbrev pub seen_all : {X V : Type 0} → (Pmac → X → V) → List (Pmac × X) → List V
seen_all seen es = map (λ e. seen e.0 e.1) es

-- a change of what is seen of one address
pub record ChangesTo {X V : Type 0} (seen : Pmac → X → V) (x : Pmac) (old new : X) (change : V → V) : Type 0 where
  pub same : change (seen x old) ≡ seen x new
  pub other : (y : Pmac) (k : X) → same_pmac y x ≡ false → change (seen y k) ≡ seen y k

module _ {X V : Type 0} (seen : Pmac → X → V) (x : Pmac) (change : V → V) (other : (y : Pmac) (k : X) → same_pmac y x ≡ false → change (seen y k) ≡ seen y k) where
  others_stay : (es : List (Pmac × X)) → AllByRecursion (λ y. same_pmac x y ≡ false) (keys_of es) → map change (seen_all seen es) ≡ seen_all seen es
  others_stay [] all = refl
  others_stay (e ∷ es) all = λ i. other e.0 e.1 (pmac_turned e.0 x ∙ all.0) i ∷ others_stay es all.1 i

  -- where it is not there, nothing changes
  pub nothing_changed : (es : List (Pmac × X)) → lookup (same_pmac x) es ≡ None → seen_all seen es ≡ map change (seen_all seen es)
  nothing_changed [] h = refl
  nothing_changed (e ∷ es) h = by (λ j. nothing_changed es j) (same_pmac x e.0) refl h
    where
      by : (lookup (same_pmac x) es ≡ None → seen_all seen es ≡ map change (seen_all seen es)) →
          (b : Bool) → same_pmac x e.0 ≡ b → cond b (Some e.1) (lookup (same_pmac x) es) ≡ None →
          seen_all seen (e ∷ es) ≡ map change (seen_all seen (e ∷ es))
      by rest true same j = absurd (cc)
      by rest false same j = λ i. sym (other e.0 e.1 (pmac_turned e.0 x ∙ same)) i ∷ rest j i

  -- where it is, what is seen of it alone does
  pub one_changed : (old new : X) → change (seen x old) ≡ seen x new → (es : List (Pmac × X)) → IsDistinct same_pmac (keys_of es) →
      lookup (same_pmac x) es ≡ Some old → seen_all seen (insert_entry same_pmac es x new) ≡ map change (seen_all seen es)
  unfolding IsDistinct
  one_changed old new is [] once h = absurd (none-some old h)
  one_changed old new is (e ∷ es) once h = by (λ j. one_changed old new is es once.1 j) (same_pmac x e.0) refl h
    where
      by : (lookup (same_pmac x) es ≡ Some old → seen_all seen (insert_entry same_pmac es x new) ≡ map change (seen_all seen es)) →
          (b : Bool) → same_pmac x e.0 ≡ b → cond b (Some e.1) (lookup (same_pmac x) es) ≡ Some old →
          seen_all seen (cond b ((e.0, new) ∷ es) (e ∷ insert_entry same_pmac es x new)) ≡ map change (seen_all seen (e ∷ es))
      by rest true same j =
          let value : e.1 ≡ old = cc in
          let key : e.0 ≡ x = sym (pmac_is x e.0 same) in
          let others : AllByRecursion (λ y. same_pmac x y ≡ false) (keys_of es) = subst (λ z. AllByRecursion (λ y. same_pmac z y ≡ false) (keys_of es)) key once.0 in
          let here : change (seen e.0 e.1) ≡ seen e.0 new = (λ i. change (seen (key i) (value i))) ∙ is ∙ ap (λ z. seen z new) (sym key) in
          λ i. sym here i ∷ sym (others_stay es others) i
      by rest false same j = λ i. sym (other e.0 e.1 (pmac_turned e.0 x ∙ same)) i ∷ rest j i

module _ {X V : Type 0} (seen : Pmac → X → V) (name : V → Pmac) (named : (y : Pmac) (k : X) → name (seen y k) ≡ y) (x : Pmac) where
  key_turned : (e : Pmac × X) → same_pmac (name (seen e.0 e.1)) x ≡ same_pmac x e.0
  key_turned e = ap (λ z. same_pmac z x) (named e.0 e.1) ∙ pmac_turned e.0 x

  -- what the table has of an address is found in the list
  pub found_in : (es : List (Pmac × X)) → find (λ v. same_pmac (name v) x) (seen_all seen es) ≡ option_map (seen x) (lookup (same_pmac x) es)
  found_in [] = refl
  found_in (e ∷ es) =
      ap (λ b. cond b (Some (seen e.0 e.1)) (find (λ v. same_pmac (name v) x) (seen_all seen es))) (key_turned e) ∙ by (found_in es) (same_pmac x e.0) refl
    where
      by : find (λ v. same_pmac (name v) x) (seen_all seen es) ≡ option_map (seen x) (lookup (same_pmac x) es) → (b : Bool) → same_pmac x e.0 ≡ b →
          cond b (Some (seen e.0 e.1)) (find (λ v. same_pmac (name v) x) (seen_all seen es)) ≡ option_map (seen x) (cond b (Some e.1) (lookup (same_pmac x) es))
      by rest true same = ap (λ z. Some (seen z e.1)) (sym (pmac_is x e.0 same))
      by rest false other = rest

  -- an address that is taken out
  not_there_kept : (es : List (Pmac × X)) → AllByRecursion (λ y. same_pmac x y ≡ false) (keys_of es) →
      filter (λ v. not (same_pmac (name v) x)) (seen_all seen es) ≡ seen_all seen es
  not_there_kept [] all = refl
  not_there_kept (e ∷ es) all =
      let left : List V = filter (λ v. not (same_pmac (name v) x)) (seen_all seen es) in
      ap (λ b. cond (not b) (seen e.0 e.1 ∷ left) left) (key_turned e ∙ all.0) ∙ ap (λ ls. seen e.0 e.1 ∷ ls) (not_there_kept es all.1)

  pub list_without : (es : List (Pmac × X)) → IsDistinct same_pmac (keys_of es) →
      seen_all seen (remove_entry (same_pmac x) es) ≡ filter (λ v. not (same_pmac (name v) x)) (seen_all seen es)
  unfolding IsDistinct
  list_without [] once = refl
  list_without (e ∷ es) once = by (list_without es once.1) (same_pmac x e.0) refl
    where
      left : List V
      left = filter (λ v. not (same_pmac (name v) x)) (seen_all seen es)

      by : seen_all seen (remove_entry (same_pmac x) es) ≡ left → (b : Bool) → same_pmac x e.0 ≡ b →
          seen_all seen (cond b es (e ∷ remove_entry (same_pmac x) es)) ≡ cond (not (same_pmac (name (seen e.0 e.1)) x)) (seen e.0 e.1 ∷ left) left
      by rest true same =
          sym (not_there_kept es (subst (λ z. AllByRecursion (λ y. same_pmac z y ≡ false) (keys_of es)) (sym (pmac_is x e.0 same)) once.0))
          ∙ sym (ap (λ b. cond (not b) (seen e.0 e.1 ∷ left) left) (key_turned e ∙ same))
      by rest false other = ap (λ ls. seen e.0 e.1 ∷ ls) rest ∙ sym (ap (λ b. cond (not b) (seen e.0 e.1 ∷ left) left) (key_turned e ∙ other))
