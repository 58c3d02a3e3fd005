-- What one more word makes of the switches that told something, and of the neighbours of each.
use Rattle.std.proofs.Common.{◌≡◌, ◌⊎◌, Bool, true, false, cond, List, [], ◌∷◌, ◌++◌, map, Some, None, Ordering, Less, Equal, Greater, refl, sym, ap, ◌∙◌, subst, inl, inr}
use Rattle.std.specs.Prelude.{unwrap_or}
use Rattle.std.specs.List.{filter}
use Rattle.std.specs.Ordering.{match_ordering}
use Rattle.std.specs.Cmp.{IsTotalOrder}
use Rattle.std.specs.Map.{keys_of}
use Rattle.std.specs.BTreeMap.{insert_entry, is_at}
use Rattle.std.specs.BTreeSet.{insert_key}
use Rattle.std.proofs.lemmas.Cmp.{on_total, then_total}
use Rattle.std.proofs.lemmas.Map.Lookups.{CmpEqualImpliesEq}
use Rattle.pl_frame.specs.declared.address.SwitchId.{SwitchId}
use Rattle.pl_layouts.specs.declared.place.Place.{Place}
use Rattle.pl_layouts.specs.Equality.{same_switch}
use Rattle.pl_layouts.proofs.Exports.{switch_itself}
use Rattle.pl_node.specs.ManagerViews.{Told, id_cmp, link_cmp, neighbours, switches, tellers, value_at}
use Rattle.pl_node.proofs.Exports.{among_append, among_filter, among_filtered, among_left, among_map, among_mapped, among_right, id_total, IsAmong}
use Rattle.pl_manager_rule.specs.ManagerRule.{with_link, with_place}
use Rattle.pl_manager_rule.proofs.Exports.{among_put, found_key, id_exact, link_exact, same_is, value_put}
use Rattle.pl_reports.specs.Kept.{near_of, with_neighbour}
use Rattle.pl_node.proofs.Exports.{same_order}

pub link_total : IsTotalOrder link_cmp
link_total = then_total (on_total (λ (l : SwitchId × SwitchId). l.0) id_total) (on_total (λ (l : SwitchId × SwitchId). l.1) id_total)

-- ---- tables with one more key
module _ {K X : Type 0} (R : K → K → Ordering) (o : IsTotalOrder R) (exact : CmpEqualImpliesEq R) where
  pub among_put_here : (es : List (K × X)) (k : K) (v : X) → IsAmong k (keys_of (insert_entry R es k v))
  among_put_here es k v = found_key R exact (insert_entry R es k v) k v (value_put R o es k v)

  pub among_put_kept : (es : List (K × X)) (k x : K) (v : X) → IsAmong x (keys_of es) → IsAmong x (keys_of (insert_entry R es k v))
  among_put_kept [] k x v h = absurd h
  among_put_kept (e ∷ es) k x v h = by (λ j. among_put_kept es k x v j) (R k e.0) h
    where
      by : (IsAmong x (keys_of es) → IsAmong x (keys_of (insert_entry R es k v))) → (r : Ordering) → IsAmong x (e.0 ∷ keys_of es) →
          IsAmong x (keys_of (match_ordering r ((k, v) ∷ e ∷ es) ((e.0, v) ∷ es) (e ∷ insert_entry R es k v)))
      by rest Less j = inr j
      by rest Equal j = j
      by rest Greater (inl is) = inl is
      by rest Greater (inr j) = inr (rest j)

  pub among_put_any : (es : List (K × X)) (k x : K) (v : X) → (k ≡ x) ⊎ IsAmong x (keys_of es) → IsAmong x (keys_of (insert_entry R es k v))
  among_put_any es k x v (inl is) = subst (λ z. IsAmong z (keys_of (insert_entry R es k v))) is (among_put_here es k v)
  among_put_any es k x v (inr h) = among_put_kept es k x v h

-- the first switch of a link that is in the table
first_of_key : (links : List ((SwitchId × SwitchId) × Bool)) (t : SwitchId) → IsAmong t (map (λ l. l.0.0) links) →
    (u : SwitchId) × IsAmong (t, u) (keys_of links)
first_of_key links t h =
    let at = among_map (λ (l : (SwitchId × SwitchId) × Bool). l.0.0) t links h in
    (at.0.0.1, subst (λ z. IsAmong (z, at.0.0.1) (keys_of links)) at.2 (among_mapped (λ (l : (SwitchId × SwitchId) × Bool). l.0) at.0 links at.1))

pub key_of_first : (links : List ((SwitchId × SwitchId) × Bool)) (t u : SwitchId) → IsAmong (t, u) (keys_of links) → IsAmong t (map (λ l. l.0.0) links)
key_of_first links t u h =
    let at = among_map (λ (l : (SwitchId × SwitchId) × Bool). l.0) (t, u) links h in
    subst (λ z. IsAmong z (map (λ (l : (SwitchId × SwitchId) × Bool). l.0.0) links)) (ap (λ (k : SwitchId × SwitchId). k.0) at.2)
    (among_mapped (λ (l : (SwitchId × SwitchId) × Bool). l.0.0) at.0 links at.1)

-- a neighbour is the second switch of a link that is in the table
abbrev pub near_in : List ((SwitchId × SwitchId) × Bool) → SwitchId → List SwitchId
near_in links t = map (λ l. l.0.1) (filter (λ l. same_switch l.0.0 t) links)

pub key_of_near : (links : List ((SwitchId × SwitchId) × Bool)) (t u : SwitchId) → IsAmong u (near_in links t) → IsAmong (t, u) (keys_of links)
key_of_near links t u h =
    let at = among_map (λ (l : (SwitchId × SwitchId) × Bool). l.0.1) u (filter (λ l. same_switch l.0.0 t) links) h in
    let passes = among_filter (λ (l : (SwitchId × SwitchId) × Bool). same_switch l.0.0 t) at.0 links at.1 in
    let is : at.0.0.0 ≡ t = same_is at.0.0.0 t passes.1 in
    let key : at.0.0 ≡ (t, u) = λ i. (is i, at.2 i) in
    subst (λ z. IsAmong z (keys_of links)) key (among_mapped (λ (l : (SwitchId × SwitchId) × Bool). l.0) at.0 links passes.0)

pub near_of_key : (links : List ((SwitchId × SwitchId) × Bool)) (t u : SwitchId) → IsAmong (t, u) (keys_of links) → IsAmong u (near_in links t)
near_of_key links t u h =
    let at = among_map (λ (l : (SwitchId × SwitchId) × Bool). l.0) (t, u) links h in
    let first : at.0.0.0 ≡ t = ap (λ (k : SwitchId × SwitchId). k.0) at.2 in
    let passes : same_switch at.0.0.0 t ≡ true = subst (λ z. same_switch z t ≡ true) (sym first) (switch_itself t) in
    subst (λ z. IsAmong z (near_in links t)) (ap (λ (k : SwitchId × SwitchId). k.1) at.2)
    (among_mapped (λ (l : (SwitchId × SwitchId) × Bool). l.0.1) at.0 (filter (λ l. same_switch l.0.0 t) links)
    (among_filtered (λ (l : (SwitchId × SwitchId) × Bool). same_switch l.0.0 t) at.0 links at.1 passes))

abbrev pub IsPair : SwitchId → SwitchId → SwitchId → SwitchId → Type 0
IsPair s u k v = let a : SwitchId × SwitchId = (s, u) in let b : SwitchId × SwitchId = (k, v) in a ≡ b

-- ---- the switches that told something
module _ (told : Told) (s : SwitchId) where
  abbrev placed : List SwitchId
  placed = map (λ p. p.0) told.places

  abbrev linked : List SwitchId
  linked = map (λ l. l.0.0) told.links

  pub switches_placed : (place : Place) → switches (with_place told s place) ≡ insert_key id_cmp (switches told) s
  switches_placed place =
      let after = keys_of (insert_entry id_cmp told.places s place) in
      same_order id_cmp id_total id_exact (after ++ linked) (s ∷ tellers told)
      (λ k h. elim (among_append k after linked h) [
        | inl a ↦ elim (among_put id_cmp told.places s k place a) [ inl is ↦ inl is | inr b ↦ inr (among_left k placed linked b) ]
        | inr b ↦ inr (among_right k placed linked b)
      ])
      (λ k h. elim h [
        | inl is ↦ among_left k after linked (among_put_any id_cmp id_total id_exact told.places s k place (inl is))
        | inr j ↦ elim (among_append k placed linked j) [
          | inl a ↦ among_left k after linked (among_put_any id_cmp id_total id_exact told.places s k place (inr a))
          | inr b ↦ among_right k after linked b
        ]
      ])

  module _ (u : SwitchId) (usable : Bool) where
    abbrev links_after : List ((SwitchId × SwitchId) × Bool)
    links_after = insert_entry link_cmp told.links (s, u) usable

    one_key : (k v : SwitchId) → IsAmong (k, v) (keys_of links_after) → IsPair s u k v ⊎ IsAmong (k, v) (keys_of told.links)
    one_key k v h = among_put link_cmp told.links (s, u) (k, v) usable h

    key_put : (k v : SwitchId) → IsPair s u k v ⊎ IsAmong (k, v) (keys_of told.links) → IsAmong (k, v) (keys_of links_after)
    key_put k v h = among_put_any link_cmp link_total link_exact told.links (s, u) (k, v) usable h

    pub switches_linked : switches (with_link told s u usable) ≡ insert_key id_cmp (switches told) s
    switches_linked =
        let after = map (λ (l : (SwitchId × SwitchId) × Bool). l.0.0) links_after in
        same_order id_cmp id_total id_exact (placed ++ after) (s ∷ tellers told)
        (λ k h. elim (among_append k placed after h) [
          | inl a ↦ inr (among_left k placed linked a)
          | inr b ↦ let at = first_of_key links_after k b in elim (one_key k at.0 at.1) [
            | inl is ↦ inl (ap (λ (l : SwitchId × SwitchId). l.0) is)
            | inr j ↦ inr (among_right k placed linked (key_of_first told.links k at.0 j))
          ]
        ])
        (λ k h. elim h [
          | inl is ↦ among_right k placed after (key_of_first links_after k u (key_put k u (inl (λ i. (is i, u)))))
          | inr j ↦ elim (among_append k placed linked j) [
            | inl a ↦ among_left k placed after a
            | inr b ↦ let at = first_of_key told.links k b in among_right k placed after (key_of_first links_after k at.0 (key_put k at.0 (inr at.1)))
          ]
        ])

    -- the switch itself has one more neighbour
    pub own_neighbours : neighbours (with_link told s u usable) s ≡ insert_key id_cmp (neighbours told s) u
    own_neighbours =
        same_order id_cmp id_total id_exact (near_in links_after s) (u ∷ near_in told.links s)
        (λ k h. elim (one_key s k (key_of_near links_after s k h)) [
          | inl is ↦ inl (ap (λ (l : SwitchId × SwitchId). l.1) is)
          | inr j ↦ inr (near_of_key told.links s k j)
        ])
        (λ k h. elim h [
          | inl is ↦ near_of_key links_after s k (key_put s k (inl (λ i. (s, is i))))
          | inr j ↦ near_of_key links_after s k (key_put s k (inr (key_of_near told.links s k j)))
        ])

    -- and any other has those that it had
    pub other_neighbours : (t : SwitchId) → (s ≡ t → ⊥) → neighbours (with_link told s u usable) t ≡ neighbours told t
    other_neighbours t apart =
        same_order id_cmp id_total id_exact (near_in links_after t) (near_in told.links t)
        (λ k h. elim (one_key t k (key_of_near links_after t k h)) [
          | inl is ↦ absurd (apart (ap (λ (l : SwitchId × SwitchId). l.0) is))
          | inr j ↦ near_of_key told.links t k j
        ])
        (λ k h. near_of_key links_after t k (key_put t k (inr (key_of_near told.links t k h))))

-- ---- the table of neighbours
pub near_started : (near after : List (SwitchId × List SwitchId)) (s u : SwitchId) (list : List SwitchId) (t : SwitchId) →
    value_at id_cmp near s ≡ None → list ≡ insert_key id_cmp [] u →
    value_at id_cmp after t ≡ cond (is_at (id_cmp s) t) (Some list) (value_at id_cmp near t) →
    near_of after t ≡ with_neighbour near s u t
near_started near after s u list t none one put = ap (λ o. unwrap_or o []) put ∙ by (is_at (id_cmp s) t)
  where
    by : (b : Bool) → unwrap_or (cond b (Some list) (value_at id_cmp near t)) [] ≡ cond b (insert_key id_cmp (near_of near s) u) (near_of near t)
    by true = one ∙ ap (λ o. insert_key id_cmp (unwrap_or o []) u) (sym none)
    by false = refl
