-- Switches that are put into a rising list one by one.
use Rattle.std.proofs.Common.{◌≡◌, ◌⊎◌, ℕ, ◌+◌, ◌≤◌, length, take, take_all, Bool, true, false, cond, List, [], ◌∷◌, ◌++◌, Ordering, Less, Equal, Greater, refl, sym, ap, ◌∙◌, subst, inl, inr}
use Rattle.std.specs.List.{filter, fold}
use Rattle.std.specs.List.Sorted.{IsStrictlySortedBy}
use Rattle.std.specs.Ordering.{match_ordering}
use Rattle.std.specs.BTreeSet.{insert_key}
use Rattle.std.proofs.lemmas.List.Kept.{IsStrictlySortedBy-filter}
use Rattle.pl_frame.specs.declared.address.SwitchId.{SwitchId}
use Rattle.pl_node.specs.ManagerViews.{id_cmp, in_order}
use Rattle.pl_node.proofs.Exports.{among_in_order, among_insert, among_ordered, id_total, IsAmong, rising_in_order, rising_inserted}
use Rattle.pl_manager_rule.proofs.Exports.{id_exact}
use Rattle.pl_node.proofs.Exports.{same_rising}

abbrev pub put_in : List SwitchId → SwitchId → List SwitchId
put_in = insert_key id_cmp

abbrev pub put_all : List SwitchId → List SwitchId → List SwitchId
put_all = fold (insert_key id_cmp)

pub among_put_before : (k x : SwitchId) (xs : List SwitchId) → IsAmong x xs → IsAmong x (put_in xs k)
among_put_before k x [] h = absurd h
among_put_before k x (y ∷ xs) h = by (λ j. among_put_before k x xs j) (id_cmp k y) h
  where
    by : (IsAmong x xs → IsAmong x (put_in xs k)) → (o : Ordering) → IsAmong x (y ∷ xs) →
        IsAmong x (match_ordering o (k ∷ y ∷ xs) (y ∷ xs) (y ∷ put_in xs k))
    by rest Less j = inr j
    by rest Equal j = j
    by rest Greater (inl is) = inl is
    by rest Greater (inr j) = inr (rest j)

pub among_put_now : (k : SwitchId) (xs : List SwitchId) → IsAmong k (put_in xs k)
among_put_now k [] = inl refl
among_put_now k (y ∷ xs) = by (among_put_now k xs) (id_cmp k y) refl
  where
    by : IsAmong k (put_in xs k) → (o : Ordering) → id_cmp k y ≡ o → IsAmong k (match_ordering o (k ∷ y ∷ xs) (y ∷ xs) (y ∷ put_in xs k))
    by rest Less e = inl refl
    by rest Equal e = inl (sym (id_exact k y e))
    by rest Greater e = inr rest

pub rising_all : (acc xs : List SwitchId) → IsStrictlySortedBy id_cmp acc → IsStrictlySortedBy id_cmp (put_all acc xs)
rising_all acc [] s = s
rising_all acc (x ∷ xs) s = rising_all (put_in acc x) xs (rising_inserted id_cmp id_total x acc s)

pub among_all : (k : SwitchId) (acc xs : List SwitchId) → IsAmong k (put_all acc xs) → IsAmong k acc ⊎ IsAmong k xs
among_all k acc [] h = inl h
among_all k acc (x ∷ xs) h = elim (among_all k (put_in acc x) xs h) [
  | inl a ↦ elim (among_insert id_cmp x k acc a) [ inl is ↦ inr (inl is) | inr b ↦ inl b ]
  | inr b ↦ inr (inr b)
]

pub among_all_before : (k : SwitchId) (acc xs : List SwitchId) → IsAmong k acc → IsAmong k (put_all acc xs)
among_all_before k acc [] h = h
among_all_before k acc (x ∷ xs) h = among_all_before k (put_in acc x) xs (among_put_before x k acc h)

pub among_all_new : (k : SwitchId) (acc xs : List SwitchId) → IsAmong k xs → IsAmong k (put_all acc xs)
among_all_new k acc [] h = absurd h
among_all_new k acc (x ∷ xs) (inl is) =
    among_all_before k (put_in acc x) xs (subst (λ z. IsAmong z (put_in acc x)) is (among_put_now x acc))
among_all_new k acc (x ∷ xs) (inr h) = among_all_new k (put_in acc x) xs h

pub nothing_rises : IsStrictlySortedBy id_cmp []
unfolding IsStrictlySortedBy
nothing_rises = tt

-- those that rise already stay as they are
pub all_rising : (xs : List SwitchId) → IsStrictlySortedBy id_cmp xs → put_all [] xs ≡ xs
all_rising xs s =
    same_rising id_cmp id_total id_exact (put_all [] xs) xs (rising_all [] xs nothing_rises) s
    (λ k h. elim (among_all k [] xs h) [ inl none ↦ absurd none | inr there ↦ there ])
    (λ k h. among_all_new k [] xs h)

pub all_passing : (p : SwitchId → Bool) (xs : List SwitchId) → IsStrictlySortedBy id_cmp xs → put_all [] (filter p xs) ≡ filter p xs
all_passing p xs s = all_rising (filter p xs) (IsStrictlySortedBy-filter id_cmp p xs s)

-- any others come in order
pub all_in_order : (xs : List SwitchId) → put_all [] xs ≡ in_order id_cmp xs
all_in_order xs =
    same_rising id_cmp id_total id_exact (put_all [] xs) (in_order id_cmp xs) (rising_all [] xs nothing_rises) (rising_in_order id_cmp id_total xs)
    (λ k h. elim (among_all k [] xs h) [ inl none ↦ absurd none | inr there ↦ among_in_order id_cmp id_exact k xs there ])
    (λ k h. among_all_new k [] xs (among_ordered id_cmp k xs h))

-- ---- one more switch that passes, or does not
pub filter_more : (p : SwitchId → Bool) (xs : List SwitchId) (e : SwitchId) → filter p (xs ++ e ∷ []) ≡ cond (p e) (filter p xs ++ e ∷ []) (filter p xs)
filter_more p [] e = refl
filter_more p (x ∷ xs) e = by (filter_more p xs e) (p x) (p e)
  where
    by : filter p (xs ++ e ∷ []) ≡ cond (p e) (filter p xs ++ e ∷ []) (filter p xs) → (b c : Bool) →
        cond b (x ∷ filter p (xs ++ e ∷ [])) (filter p (xs ++ e ∷ [])) ≡ cond (p e) (cond b (x ∷ filter p xs) (filter p xs) ++ e ∷ []) (cond b (x ∷ filter p xs) (filter p xs))
    by rest true c = ap (λ zs. x ∷ zs) rest ∙ into (p e)
      where
        into : (d : Bool) → (x ∷ cond d (filter p xs ++ e ∷ []) (filter p xs)) ≡ cond d ((x ∷ filter p xs) ++ e ∷ []) (x ∷ filter p xs)
        into true = refl
        into false = refl
    by rest false c = rest

pub all_more : (acc xs : List SwitchId) (x : SwitchId) → put_all acc (xs ++ x ∷ []) ≡ put_in (put_all acc xs) x
all_more acc [] x = refl
all_more acc (y ∷ xs) x = all_more (put_in acc y) xs x

pub passing_more : (p : SwitchId → Bool) (xs : List SwitchId) (x : SwitchId) →
    put_all [] (filter p (xs ++ x ∷ [])) ≡ cond (p x) (put_in (put_all [] (filter p xs)) x) (put_all [] (filter p xs))
passing_more p xs x = ap (put_all []) (filter_more p xs x) ∙ by (p x)
  where
    by : (b : Bool) → put_all [] (cond b (filter p xs ++ x ∷ []) (filter p xs)) ≡ cond b (put_in (put_all [] (filter p xs)) x) (put_all [] (filter p xs))
    by true = all_more [] (filter p xs) x
    by false = refl

-- ---- the steps of a loop over switches
pub passing_next : (p : SwitchId → Bool) (items : List SwitchId) (i : ℕ) (x : SwitchId) (old new : List SwitchId) (b : Bool) →
    take (i + 1) items ≡ take i items ++ x ∷ [] → old ≡ put_all [] (filter p (take i items)) → new ≡ cond b (put_in old x) old → b ≡ p x →
    new ≡ put_all [] (filter p (take (i + 1) items))
passing_next p items i x old new b more were now is =
    now ∙ (λ j. cond (is j) (put_in (were j) x) (were j)) ∙ sym (passing_more p (take i items) x) ∙ ap (λ xs. put_all [] (filter p xs)) (sym more)

pub passing_done : (p : SwitchId → Bool) (items : List SwitchId) (i : ℕ) (list : List SwitchId) → length items ≤ i →
    list ≡ put_all [] (filter p (take i items)) → IsStrictlySortedBy id_cmp items → list ≡ filter p items
passing_done p items i list past is rising =
    is ∙ ap (λ xs. put_all [] (filter p xs)) (take_all i items past) ∙ all_passing p items rising
