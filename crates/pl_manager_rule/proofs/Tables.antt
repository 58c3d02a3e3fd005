-- Tables that rise by their keys: what they have at a key, and what one more word makes of them.
use Rattle.std.proofs.Common.{◌≡◌, ◌⊎◌, Bool, true, false, cond, List, [], ◌∷◌, Some, None, Ordering, Less, Equal, Greater, refl, sym, ap, ◌∙◌, subst, inl, inr}
use Rattle.std.specs.List.Sorted.{IsStrictlySortedBy}
use Rattle.std.specs.Map.{keys_of}
use Rattle.std.specs.BTreeMap.{insert_entry}
use Rattle.std.specs.BTreeSet.{insert_key}
use Rattle.std.specs.Ordering.{is_eq, match_ordering, ordering_reverse}
use Rattle.std.specs.Cmp.{Equal-is, IsTotalOrder}
use Rattle.std.proofs.lemmas.Cmp.{tied_itself}
use Rattle.std.proofs.lemmas.Map.Lookups.{CmpEqualImpliesEq}
use Rattle.pl_node.specs.ManagerViews.{value_at}
use Rattle.pl_node.proofs.Exports.{among_insert, holds_of, IsAmong, rising_inserted}

not_both : {K : Type 0} (R : K → K → Ordering) → IsTotalOrder R → (a b : K) → R a b ≡ Less → R b a ≡ Less → ⊥
not_both R o a b less more = let turned : R b a ≡ Greater = o.antisymm b a ∙ ap ordering_reverse less in absurd (cc)

module _ {K X : Type 0} (R : K → K → Ordering) where
  pub keys_inserted : (es : List (K × X)) (k : K) (v : X) → keys_of (insert_entry R es k v) ≡ insert_key R (keys_of es) k
  keys_inserted [] k v = refl
  keys_inserted (e ∷ es) k v = by (keys_inserted es k v) (R k e.0)
    where
      by : keys_of (insert_entry R es k v) ≡ insert_key R (keys_of es) k → (r : Ordering) →
          keys_of (match_ordering r ((k, v) ∷ e ∷ es) ((e.0, v) ∷ es) (e ∷ insert_entry R es k v))
          ≡ match_ordering r (k ∷ e.0 ∷ keys_of es) (e.0 ∷ keys_of es) (e.0 ∷ insert_key R (keys_of es) k)
      by rest Less = refl
      by rest Equal = refl
      by rest Greater = ap (λ ks. e.0 ∷ ks) rest

  -- no key comes besides the one that is put in
  pub among_put : (es : List (K × X)) (k x : K) (v : X) → IsAmong x (keys_of (insert_entry R es k v)) → (k ≡ x) ⊎ IsAmong x (keys_of es)
  among_put es k x v h = among_insert R k x (keys_of es) (subst (IsAmong x) (keys_inserted es k v) h)

  -- a key that has a value is among the keys
  pub found_key : CmpEqualImpliesEq R → (es : List (K × X)) (k : K) (v : X) → value_at R es k ≡ Some v → IsAmong k (keys_of es)
  found_key exact [] k v h = let none : None ≡ Some v = h in cc
  found_key exact (e ∷ es) k v h = by (λ j. found_key exact es k v j) (is_eq (R k e.0)) refl h
    where
      by : (value_at R es k ≡ Some v → IsAmong k (keys_of es)) → (b : Bool) → is_eq (R k e.0) ≡ b →
          cond b (Some e.1) (value_at R es k) ≡ Some v → IsAmong k (e.0 ∷ keys_of es)
      by rest true is j = inl (sym (exact k e.0 ((Equal-is (R k e.0)).0 is)))
      by rest false is j = inr (rest j)

  module _ (o : IsTotalOrder R) where
    pub rising_put : (es : List (K × X)) (k : K) (v : X) → IsStrictlySortedBy R (keys_of es) → IsStrictlySortedBy R (keys_of (insert_entry R es k v))
    rising_put es k v s = subst (IsStrictlySortedBy R) (sym (keys_inserted es k v)) (rising_inserted R o k (keys_of es) s)

    -- what is put in is there
    pub value_put : (es : List (K × X)) (k : K) (v : X) → value_at R (insert_entry R es k v) k ≡ Some v
    value_put [] k v = ap (λ b. cond b (Some v) None) (ap is_eq (tied_itself o k))
    value_put (e ∷ es) k v = by (value_put es k v) (R k e.0) refl
      where
        by : value_at R (insert_entry R es k v) k ≡ Some v → (r : Ordering) → R k e.0 ≡ r →
            value_at R (match_ordering r ((k, v) ∷ e ∷ es) ((e.0, v) ∷ es) (e ∷ insert_entry R es k v)) k ≡ Some v
        by rest Less is = ap (λ b. cond b (Some v) (value_at R (e ∷ es) k)) (ap is_eq (tied_itself o k))
        by rest Equal is = ap (λ b. cond b (Some v) (value_at R es k)) (ap is_eq is)
        by rest Greater is = ap (λ b. cond b (Some e.1) (value_at R (insert_entry R es k v) k)) (ap is_eq is) ∙ rest

    -- what is there already, put in once more, changes nothing
    pub put_again : CmpEqualImpliesEq R → (es : List (K × X)) (k : K) (v : X) → IsStrictlySortedBy R (keys_of es) →
        value_at R es k ≡ Some v → insert_entry R es k v ≡ es
    unfolding IsStrictlySortedBy
    put_again exact [] k v s h = let none : None ≡ Some v = h in cc
    put_again exact (e ∷ es) k v s h = by (λ j. put_again exact es k v s.1 j) (R k e.0) refl h
      where
        by : (value_at R es k ≡ Some v → insert_entry R es k v ≡ es) → (r : Ordering) → R k e.0 ≡ r →
            cond (is_eq r) (Some e.1) (value_at R es k) ≡ Some v →
            match_ordering r ((k, v) ∷ e ∷ es) ((e.0, v) ∷ es) (e ∷ insert_entry R es k v) ≡ e ∷ es
        by rest Less is j =
            let there = found_key exact es k v j in
            let after = holds_of (λ b. R e.0 b ≡ Less) k (keys_of es) s.0 there in
            absurd (not_both R o e.0 k after is)
        by rest Equal is j = let same : e.1 ≡ v = cc in ap (λ w. (e.0, w) ∷ es) (sym same)
        by rest Greater is j = ap (λ fs. e ∷ fs) (rest j)
