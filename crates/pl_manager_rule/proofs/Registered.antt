-- Who asks for a pod stands once, and has a number then.
use Rattle.std.proofs.Common.{◌≡◌, ℕ, suc, ◌+◌, ◌&&◌, ◌||◌, Bool, true, false, cond, List, [], ◌∷◌, ◌++◌, map, reverse, length, Some, is_some, IsSome, refl, sym, ap, ◌∙◌, eq-eqb}
use Rattle.std.specs.List.{AllByRecursion, IsDistinct, find, list_any, range_with_len}
use Rattle.std.specs.Option.{option_map}
use Rattle.std.proofs.lemmas.Bool.{false≢true, or_parts}
use Rattle.std.proofs.lemmas.Cmp.{nat_eq_equiv}
use Rattle.std.proofs.lemmas.List.{length-map, reverse-append}
use Rattle.pl_lemmas.proofs.Exports.{range_more}
use Rattle.pl_frame.specs.declared.address.SwitchId.{SwitchId}
use Rattle.pl_pmac.specs.declared.pmac.Pmac.{Pmac}
use Rattle.pl_layouts.specs.Equality.{same_pmac, same_switch}
use Rattle.pl_node.specs.declared.pod_given.PodGiven.{PodGiven}
use Rattle.pl_node.specs.ManagerViews.{Told, first_free, pod_given}
use Rattle.pl_manager_rule.specs.ManagerRule.{with_asker}

-- one more number, the next one
one_more : (a n : ℕ) (ns : List ℕ) → n ≡ a + length ns → reverse ns ≡ range_with_len a (length ns) →
    reverse (n ∷ ns) ≡ range_with_len a (suc (length ns))
one_more a n ns next h =
    reverse-append (n ∷ []) ns ∙ ap (λ r. r ++ n ∷ []) h ∙ ap (λ m. range_with_len a (length ns) ++ m ∷ []) next ∙ sym (range_more a (length ns))

-- the same of the field of each item
pub one_more_item : {X : Type 0} (f : X → ℕ) (a : ℕ) (x : X) (xs : List X) → f x ≡ a + length xs → reverse (map f xs) ≡ range_with_len a (length xs) →
    reverse (map f (x ∷ xs)) ≡ range_with_len a (suc (length xs))
one_more_item f a x xs next h =
    let long : length (map f xs) ≡ length xs = length-map xs f in
    one_more a (f x) (map f xs) (next ∙ ap (λ n. a + n) (sym long)) (h ∙ ap (range_with_len a) (sym long)) ∙ ap (λ n. range_with_len a (suc n)) long

-- none of them is like this one
none_like : {X K : Type 0} (f : X → K) (eq : K → K → Bool) → ((a b : K) → eq a b ≡ eq b a) → (k : K) (xs : List X) →
    list_any (λ x. eq (f x) k) xs ≡ false → AllByRecursion (λ y. eq k y ≡ false) (map f xs)
none_like f eq turned k [] h = tt
none_like f eq turned k (x ∷ xs) h =
    let two = or_parts (eq (f x) k) (list_any (λ y. eq (f y) k) xs) h in (turned k (f x) ∙ two.0, none_like f eq turned k xs two.1)

pub switch_turned : (a b : SwitchId) → same_switch a b ≡ same_switch b a
switch_turned a b = nat_eq_equiv.symm a.0 b.0

pub pmac_turned : (a b : Pmac) → same_pmac a b ≡ same_pmac b a
pmac_turned a b = λ i. ((nat_eq_equiv.symm a.pod b.pod i && nat_eq_equiv.symm a.position b.position i) && nat_eq_equiv.symm a.port b.port i)
    && nat_eq_equiv.symm a.vmid b.vmid i

-- ---- pods
-- each that asked stands once
pub askers_once : (told : Told) (pods : List PodGiven) (s : SwitchId) → IsDistinct same_switch (map (λ g. g.switch) pods) →
    IsDistinct same_switch (map (λ g. g.switch) (with_asker told pods s))
unfolding IsDistinct
askers_once told pods s once = by (list_any (λ g. same_switch g.switch s) pods) refl
  where
    by : (b : Bool) → list_any (λ g. same_switch g.switch s) pods ≡ b →
        let new : PodGiven = record { switch = s; pod = first_free told pods } in
        IsDistinct same_switch (map (λ g. g.switch) (cond b pods (new ∷ pods)))
    by true e = once
    by false e = (none_like (λ g. g.switch) same_switch switch_turned s pods e, once)

pub found_where_any : (test : PodGiven → Bool) (gs : List PodGiven) → list_any test gs ≡ true → is_some (option_map (λ g. g.pod) (find test gs)) ≡ true
found_where_any test [] h = absurd (false≢true h)
found_where_any test (g ∷ gs) h = by (λ k. found_where_any test gs k) (test g) h
  where
    by : (list_any test gs ≡ true → is_some (option_map (λ g. g.pod) (find test gs)) ≡ true) → (b : Bool) → (b || list_any test gs) ≡ true →
        is_some (option_map (λ g. g.pod) (cond b (Some g) (find test gs))) ≡ true
    by rest true k = refl
    by rest false k = rest k

-- one that asks has a number then
pub asker_has_pod : (told : Told) (pods : List PodGiven) (s : SwitchId) → IsSome (pod_given (with_asker told pods s) s)
asker_has_pod told pods s = by (list_any (λ g. same_switch g.switch s) pods) refl
  where
    by : (b : Bool) → list_any (λ g. same_switch g.switch s) pods ≡ b →
        let new : PodGiven = record { switch = s; pod = first_free told pods } in IsSome (pod_given (cond b pods (new ∷ pods)) s)
    by true e = found_where_any (λ g. same_switch g.switch s) pods e
    by false e =
        let new : PodGiven = record { switch = s; pod = first_free told pods } in
        let own : same_switch s s ≡ true = eq-eqb s.0 s.0 refl in
        ap (λ c. is_some (option_map (λ g. g.pod) (cond c (Some new) (find (λ g. same_switch g.switch s) pods)))) own
