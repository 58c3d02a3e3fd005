-- What is found in a list, and where.
use Rattle.std.proofs.Common.{◌≡◌, ◌≢◌, ℕ, ◌||◌, Bool, true, false, cond, List, [], ◌∷◌, Option, Some, None, slice_get, refl, sym, ap, subst, ◌∙◌, arith, eq-eqb, eqb-true, AllPairs}
use Rattle.std.specs.List.{find, list_any, position, position_from}
use Rattle.std.proofs.lemmas.Bool.{false≢true, or_parts}
use Rattle.std.proofs.lemmas.Iterator.Adapters.{position_from-zero}
use Rattle.std.proofs.lemmas.Option.{none-some, same_Some}
use Rattle.pl_frame.specs.declared.address.SwitchId.{SwitchId}
use Rattle.pl_pmac.specs.declared.pmac.Pmac.{Pmac}
use Rattle.pl_layouts.specs.Equality.{same_pmac, same_switch}
use Rattle.pl_layouts.proofs.Exports.{pmac_itself}
use Rattle.pl_node.specs.ManagerViews.{LearntAddress}
use Rattle.pl_law_addresses.proofs.AddressLemmas.{one_index}
use Rattle.pl_law_addresses.proofs.GrantsByNumber.{first_passes, none_passes}

module _ {X : Type 0} (p : X → Bool) where
  pub found_if_any : (xs : List X) → list_any p xs ≡ true → (x : X) × (find p xs ≡ Some x)
  found_if_any [] h = absurd (false≢true h)
  found_if_any (x ∷ xs) h = by (λ k. found_if_any xs k) (p x) h
    where
      by : (list_any p xs ≡ true → (y : X) × (find p xs ≡ Some y)) → (b : Bool) → (b || list_any p xs) ≡ true →
          (y : X) × (cond b (Some x) (find p xs) ≡ Some y)
      by rest true k = (x, refl)
      by rest false k = rest k

  pub none_if_not_any : (xs : List X) → list_any p xs ≡ false → find p xs ≡ None
  none_if_not_any [] h = refl
  none_if_not_any (x ∷ xs) h =
      let two = or_parts (p x) (list_any p xs) h in ap (λ b. cond b (Some x) (find p xs)) two.0 ∙ none_if_not_any xs two.1

-- what is known of one address
abbrev found_at : List LearntAddress → Pmac → Option LearntAddress
found_at addresses y = find (λ a. same_pmac a.pmac y) addresses

-- what is found by any test is found by its address
pub found_by_name : (test : LearntAddress → Bool) (addresses : List LearntAddress) (c : LearntAddress) → find test addresses ≡ Some c →
    (d : LearntAddress) × (found_at addresses c.pmac ≡ Some d)
found_by_name test [] c is = absurd (none-some c is)
found_by_name test (a ∷ addresses) c is = by (λ k. found_by_name test addresses c k) (test a) is
  where
    either : (b : Bool) → (d : LearntAddress) × (found_at addresses c.pmac ≡ Some d) →
        (d : LearntAddress) × (cond b (Some a) (found_at addresses c.pmac) ≡ Some d)
    either true rest = (a, refl)
    either false rest = rest

    by : (find test addresses ≡ Some c → (d : LearntAddress) × (found_at addresses c.pmac ≡ Some d)) → (b : Bool) →
        cond b (Some a) (find test addresses) ≡ Some c → (d : LearntAddress) × (cond (same_pmac a.pmac c.pmac) (Some a) (found_at addresses c.pmac) ≡ Some d)
    by rest true at =
        let same : a ≡ c = same_Some a c at in
        (a, ap (λ b. cond b (Some a) (found_at addresses c.pmac)) (subst (λ (e : LearntAddress). same_pmac a.pmac e.pmac ≡ true) same (pmac_itself a.pmac)))
    by rest false at = either (same_pmac a.pmac c.pmac) (rest at)

-- the place of an id is where it stands
pub place_is : (ids : List SwitchId) → AllPairs (λ a b. a.0 ≢ b.0) ids → (t : ℕ) (id : SwitchId) → slice_get ids t ≡ Some id →
    position (same_switch id) ids ≡ Some t
place_is ids apart t id at = position_from-zero (same_switch id) ids ∙ by (position_from (same_switch id) 0 ids) refl
  where
    by : (o : Option ℕ) → position_from (same_switch id) 0 ids ≡ o → o ≡ Some t
    by None is = absurd (false≢true (sym (none_passes (same_switch id) ids 0 is t id at) ∙ eq-eqb id.0 id.0 refl))
    by (Some n) is =
        let f = first_passes (same_switch id) ids 0 n is in
        let it = f.is in
        let zero : n ≡ f.at = omega (arith, it) in
        ap Some (zero ∙ one_index (λ (x : SwitchId). x.0) ids apart f.at t f.item id f.found at (sym (eqb-true id.0 f.item.0 f.passes)))
