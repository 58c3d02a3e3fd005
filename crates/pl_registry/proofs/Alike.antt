-- Tables that rise by their keys are the same where they say the same of each key.
use Rattle.std.proofs.Common.{◌≡◌, Bool, true, false, cond, List, [], ◌∷◌, Option, Some, None, Ordering, Less, Equal, Greater, refl, sym, ap, ◌∙◌}
use Rattle.std.specs.List.{AllByRecursion}
use Rattle.std.specs.List.Sorted.{IsStrictlySortedBy}
use Rattle.std.specs.Map.{keys_of}
use Rattle.std.specs.Ordering.{is_eq, ordering_reverse}
use Rattle.std.specs.Cmp.{Equal-is, IsTotalOrder}
use Rattle.std.proofs.lemmas.Cmp.{tied_itself}
use Rattle.std.proofs.lemmas.Map.Lookups.{CmpEqualImpliesEq}
use Rattle.pl_node.specs.ManagerViews.{value_at}
use Rattle.pl_node.proofs.Exports.{holds_of}
use Rattle.pl_manager_rule.proofs.Exports.{found_key}

not_below_oneself : {K : Type 0} (R : K → K → Ordering) → IsTotalOrder R → (k : K) → R k k ≡ Less → ⊥
not_below_oneself R o k less = let tied : R k k ≡ Equal = tied_itself o k in absurd (cc)

below_all : {K : Type 0} (R : K → K → Ordering) → IsTotalOrder R → (a b : K) (ks : List K) → R a b ≡ Less →
    AllByRecursion (λ k. R b k ≡ Less) ks → AllByRecursion (λ k. R a k ≡ Less) ks
below_all R o a b [] less all = tt
below_all R o a b (k ∷ ks) less all = (o.trans a b k less all.0, below_all R o a b ks less all.1)

module _ {K X : Type 0} (R : K → K → Ordering) (o : IsTotalOrder R) (exact : CmpEqualImpliesEq R) where
  own_value : (e : K × X) (es : List (K × X)) → value_at R (e ∷ es) e.0 ≡ Some e.1
  own_value e es = ap (λ r. cond (is_eq r) (Some e.1) (value_at R es e.0)) (tied_itself o e.0)

  -- a key below all of them has no value
  none_below : (k : K) (es : List (K × X)) → AllByRecursion (λ b. R k b ≡ Less) (keys_of es) → value_at R es k ≡ None
  none_below k es all = by (value_at R es k) refl
    where
      by : (v : Option X) → value_at R es k ≡ v → value_at R es k ≡ None
      by None e = e
      by (Some v) e = absurd (not_below_oneself R o k (holds_of (λ b. R k b ≡ Less) k (keys_of es) all (found_key R exact es k v e)))

  -- the smaller of two first keys would be missing from the other table
  missed : (e f : K × X) (es fs : List (K × X)) → R e.0 f.0 ≡ Less → AllByRecursion (λ k. R f.0 k ≡ Less) (keys_of fs) →
      value_at R (e ∷ es) e.0 ≡ value_at R (f ∷ fs) e.0 → ⊥
  missed e f es fs less all says =
      let none : value_at R (f ∷ fs) e.0 ≡ None = none_below e.0 (f ∷ fs) (less, below_all R o e.0 f.0 (keys_of fs) less all) in
      let some : value_at R (e ∷ es) e.0 ≡ Some e.1 = own_value e es in
      let both : Some e.1 ≡ None = sym some ∙ says ∙ none in absurd (cc)

  pub same_tables : (es fs : List (K × X)) → IsStrictlySortedBy R (keys_of es) → IsStrictlySortedBy R (keys_of fs) →
      ((q : K) → value_at R es q ≡ value_at R fs q) → es ≡ fs
  unfolding IsStrictlySortedBy
  same_tables [] [] s t says = refl
  same_tables [] (f ∷ fs) s t says = let h : None ≡ Some f.1 = says f.0 ∙ own_value f fs in absurd (cc)
  same_tables (e ∷ es) [] s t says = let h : Some e.1 ≡ None = sym (own_value e es) ∙ says e.0 in absurd (cc)
  same_tables (e ∷ es) (f ∷ fs) s t says = by (λ tails. same_tables es fs s.1 t.1 tails) (R e.0 f.0) refl
    where
      by : (((q : K) → value_at R es q ≡ value_at R fs q) → es ≡ fs) → (r : Ordering) → R e.0 f.0 ≡ r → e ∷ es ≡ f ∷ fs
      by rest Less is = absurd (missed e f es fs is t.0 (says e.0))
      by rest Greater is = absurd (missed f e fs es (o.antisymm f.0 e.0 ∙ ap ordering_reverse is) s.0 (sym (says f.0)))
      by rest Equal is =
          let key = exact e.0 f.0 is in
          let told : Some e.1 ≡ Some f.1 = sym (own_value e es) ∙ says e.0 ∙ ap (value_at R (f ∷ fs)) key ∙ own_value f fs in
          let value : e.1 ≡ f.1 = cc in
          let tail : es ≡ fs = rest (λ q. behind key q (is_eq (R q e.0)) refl (says q)) in
          λ i. (key i, value i) ∷ tail i
        where
          behind : e.0 ≡ f.0 → (q : K) (b : Bool) → is_eq (R q e.0) ≡ b → value_at R (e ∷ es) q ≡ value_at R (f ∷ fs) q → value_at R es q ≡ value_at R fs q
          behind key q true at h =
              let k = exact q e.0 ((Equal-is (R q e.0)).0 at) in
              ap (value_at R es) k ∙ none_below e.0 es s.0 ∙ sym (ap (value_at R fs) (k ∙ key) ∙ none_below f.0 fs t.0)
          behind key q false at h =
              sym (ap (λ b. cond b (Some e.1) (value_at R es q)) at) ∙ h
              ∙ ap (λ b. cond b (Some f.1) (value_at R fs q)) (ap (λ k. is_eq (R q k)) (sym key) ∙ at)
