-- Which edge switches are placed, and what one more word makes of them.
use Rattle.std.proofs.Common.{◌≡◌, ◌⊎◌, ℕ, ◌==◌, Bool, true, false, not, cond, List, [], ◌∷◌, map, Option, Some, None, is_some, Ordering, Less, Equal, Greater, refl, sym, ap, ◌∙◌, subst, inl, inr, Result, Ok, Err, IfErr, length, arith}
use Rattle.std.specs.Prelude.{unwrap_or}
use Rattle.std.specs.List.{cons_option, filter, filter_map, insert, list_any}
use Rattle.std.specs.List.Sorted.{IsStrictlySortedBy}
use Rattle.std.specs.Ordering.{is_eq, match_ordering}
use Rattle.std.specs.Map.{keys_of}
use Rattle.std.specs.BTreeMap.{is_at}
use Rattle.std.specs.BTreeSet.{insert_key}
use Rattle.std.proofs.lemmas.Bool.{false≢true, or_parts}
use Rattle.std.proofs.lemmas.List.Kept.{IsStrictlySortedBy-filter}
use Rattle.pl_frame.specs.declared.address.SwitchId.{SwitchId}
use Rattle.pl_layouts.specs.declared.place.Place.{Place}
use Rattle.pl_layouts.specs.Equality.{same_switch}
use Rattle.pl_layouts.specs.Placement.{nowhere}
use Rattle.pl_layouts.proofs.Exports.{switch_itself}
use Rattle.pl_node.specs.ManagerViews.{PlacedEdge, Told, edge_at, edge_with, id_cmp, place_of, placed_edges, switches, tellers, value_at}
use Rattle.pl_node.proofs.Exports.{among_filter, among_filtered, among_in_order, among_insert, among_left, id_total, IsAmong, rising_inserted}
use Rattle.pl_manager_rule.specs.ManagerRule.{with_link, with_place}
use Rattle.pl_manager_rule.proofs.Exports.{found_key, id_among, id_exact, id_is, same_is, switches_rise, value_after, value_put}
use Rattle.pl_reports.specs.Kept.{with_edge}
use Rattle.pl_reports.proofs.Liveness.{not_here}
use Rattle.pl_reports.proofs.Standing.{one_longer}
use Rattle.pl_node.proofs.Exports.{same_rising}
use Rattle.pl_reports.proofs.Sorting.{among_put_before, among_put_now, put_in}
use Rattle.pl_reports.proofs.Telling.{switches_linked, switches_placed}

-- whether a switch is a placed edge switch
abbrev pub is_edge : Told → SwitchId → Bool
is_edge told s = is_some (edge_at s (place_of told s))

edge_is : (s : SwitchId) (level position pod : Option ℕ) (e : PlacedEdge) → edge_with s level position pod ≡ Some e → e.switch ≡ s
edge_is s None position pod e h = let none : None ≡ Some e = h in absurd (cc)
edge_is s (Some level) None pod e h = let none : None ≡ Some e = h in absurd (cc)
edge_is s (Some level) (Some position) None e h = let none : None ≡ Some e = h in absurd (cc)
edge_is s (Some level) (Some position) (Some pod) e h = by (level == 0) h
  where
    by : (b : Bool) → cond b (Some (let x : PlacedEdge = record { switch = s; pod = pod; position = position } in x)) None ≡ Some e → e.switch ≡ s
    by true j = let is : record { switch = s; pod = pod; position = position } ≡ e = cc in sym (ap (λ (x : PlacedEdge). x.switch) is)
    by false j = let none : None ≡ Some e = j in absurd (cc)

pub placed_in : (told : Told) (ss : List SwitchId) →
    filter (is_edge told) ss ≡ map (λ e. e.switch) (filter_map (λ s. edge_at s (place_of told s)) ss)
placed_in told [] = refl
placed_in told (s ∷ ss) = by (placed_in told ss) (edge_at s (place_of told s)) refl
  where
    by : filter (is_edge told) ss ≡ map (λ e. e.switch) (filter_map (λ t. edge_at t (place_of told t)) ss) →
        (o : Option PlacedEdge) → edge_at s (place_of told s) ≡ o →
        cond (is_some o) (s ∷ filter (is_edge told) ss) (filter (is_edge told) ss)
        ≡ map (λ e. e.switch) (cons_option o (filter_map (λ t. edge_at t (place_of told t)) ss))
    by rest None is = rest
    by rest (Some e) is =
        let place = place_of told s in
        let same = edge_is s place.level place.position place.pod e is in
        λ i. sym same i ∷ rest i

-- one of them told its place
edge_told : (told : Told) (s : SwitchId) → is_edge told s ≡ true → IsAmong s (switches told)
edge_told told s h = by (value_at id_cmp told.places s) refl h
  where
    by : (o : Option Place) → value_at id_cmp told.places s ≡ o → is_some (edge_at s (unwrap_or o nowhere)) ≡ true → IsAmong s (switches told)
    by None e k = absurd (false≢true k)
    by (Some place) e k =
        among_in_order id_cmp id_exact s (tellers told)
        (among_left s (keys_of told.places) (map (λ l. l.0.0) told.links) (found_key id_cmp id_exact told.places s place e))

-- ---- a word on a link
pub insert_nothing : (xs : List SwitchId) (k : SwitchId) → IsStrictlySortedBy id_cmp xs → IsAmong k xs → insert_key id_cmp xs k ≡ xs
insert_nothing xs k s among =
    same_rising id_cmp id_total id_exact (insert_key id_cmp xs k) xs (rising_inserted id_cmp id_total k xs s) s
    (λ x h. elim (among_insert id_cmp k x xs h) [ inl is ↦ subst (λ z. IsAmong z xs) is among | inr j ↦ j ])
    (λ x h. among_put_before k x xs h)

-- a switch without a place adds none
none_placed : (f : SwitchId → Option PlacedEdge) (s : SwitchId) → f s ≡ None → (xs : List SwitchId) → filter_map f (insert_key id_cmp xs s) ≡ filter_map f xs
none_placed f s none [] = ap (λ o. cons_option o []) none
none_placed f s none (x ∷ xs) = by (none_placed f s none xs) (id_cmp s x)
  where
    by : filter_map f (insert_key id_cmp xs s) ≡ filter_map f xs → (o : Ordering) →
        filter_map f (match_ordering o (s ∷ x ∷ xs) (x ∷ xs) (x ∷ insert_key id_cmp xs s)) ≡ filter_map f (x ∷ xs)
    by rest Less = ap (λ o. cons_option o (filter_map f (x ∷ xs))) none
    by rest Equal = refl
    by rest Greater = ap (cons_option (f x)) rest

pub edges_linked : (told : Told) (s u : SwitchId) (usable : Bool) → placed_edges (with_link told s u usable) ≡ placed_edges told
edges_linked told s u usable = ap (filter_map edge) (switches_linked told s u usable) ∙ by (edge s) refl
  where
    edge : SwitchId → Option PlacedEdge
    edge t = edge_at t (place_of told t)

    by : (o : Option PlacedEdge) → edge s ≡ o → filter_map edge (insert_key id_cmp (switches told) s) ≡ placed_edges told
    by None e = none_placed edge s e (switches told)
    by (Some x) e = ap (filter_map edge) (insert_nothing (switches told) s (switches_rise told) (edge_told told s (ap is_some e)))

-- ---- a place
is_or_not : (s k : SwitchId) → (s ≡ k) ⊎ (s ≡ k → ⊥)
is_or_not s k = by (is_at (id_cmp s) k) refl
  where
    by : (b : Bool) → is_at (id_cmp s) k ≡ b → (s ≡ k) ⊎ (s ≡ k → ⊥)
    by true e = inl (id_is s k e)
    by false e = inr (not_here s k e)

apart_is : (s k : SwitchId) → (s ≡ k → ⊥) → not (same_switch k s) ≡ true
apart_is s k apart = by (same_switch k s) refl
  where
    by : (b : Bool) → same_switch k s ≡ b → not b ≡ true
    by true e = absurd (apart (sym (same_is k s e)))
    by false e = refl

is_apart : (s k : SwitchId) → not (same_switch k s) ≡ true → s ≡ k → ⊥
is_apart s k other is = false≢true (ap not (sym (subst (λ z. same_switch z s ≡ true) is (switch_itself s))) ∙ other)

module _ (told : Told) (s : SwitchId) (place : Place) where
  abbrev after : Told
  after = with_place told s place

  abbrev is_one : Bool
  is_one = is_some (edge_at s place)

  own_edge : is_edge after s ≡ is_one
  own_edge = ap (λ (o : Option Place). is_some (edge_at s (unwrap_or o nowhere))) (value_put id_cmp id_total told.places s place)

  other_edge : (t : SwitchId) → (s ≡ t → ⊥) → is_edge after t ≡ is_edge told t
  other_edge t apart =
      ap (λ (o : Option Place). is_some (edge_at t (unwrap_or o nowhere)))
      (value_after id_cmp id_total id_exact told.places s t place ∙ by (is_eq (id_cmp t s)) refl)
    where
      by : (b : Bool) → is_eq (id_cmp t s) ≡ b → cond b (Some place) (value_at id_cmp told.places t) ≡ value_at id_cmp told.places t
      by true e = absurd (apart (sym (id_is t s e)))
      by false e = refl

  abbrev was : List SwitchId
  was = filter (is_edge told) (switches told)

  abbrev now : List SwitchId
  now = filter (is_edge after) (put_in (switches told) s)

  was_one : (k : SwitchId) → (s ≡ k → ⊥) → IsAmong k now → IsAmong k was
  was_one k apart h =
      let at = among_filter (is_edge after) k (put_in (switches told) s) h in
      among_filtered (is_edge told) k (switches told)
      (elim (among_insert id_cmp s k (switches told) at.0) [ inl is ↦ absurd (apart is) | inr there ↦ there ]) (sym (other_edge k apart) ∙ at.1)

  still_one : (k : SwitchId) → (s ≡ k → ⊥) → IsAmong k was → IsAmong k now
  still_one k apart h =
      let at = among_filter (is_edge told) k (switches told) h in
      among_filtered (is_edge after) k (put_in (switches told) s) (among_put_before s k (switches told) at.0) (other_edge k apart ∙ at.1)

  was_rises : IsStrictlySortedBy id_cmp was
  was_rises = IsStrictlySortedBy-filter id_cmp (is_edge told) (switches told) (switches_rise told)

  now_rises : IsStrictlySortedBy id_cmp now
  now_rises =
      IsStrictlySortedBy-filter id_cmp (is_edge after) (put_in (switches told) s) (rising_inserted id_cmp id_total s (switches told) (switches_rise told))

  one_more : is_one ≡ true → now ≡ put_in was s
  one_more e =
      same_rising id_cmp id_total id_exact now (put_in was s) now_rises (rising_inserted id_cmp id_total s was was_rises)
      (λ k h. elim (is_or_not s k) [
        | inl is ↦ subst (λ z. IsAmong z (put_in was s)) is (among_put_now s was)
        | inr apart ↦ among_put_before s k was (was_one k apart h)
      ])
      (λ k h. elim (is_or_not s k) [
        | inl is ↦ subst (λ z. IsAmong z now) is
            (among_filtered (is_edge after) s (put_in (switches told) s) (among_put_now s (switches told)) (own_edge ∙ e))
        | inr apart ↦ still_one k apart (elim (among_insert id_cmp s k was h) [ inl is ↦ absurd (apart is) | inr there ↦ there ])
      ])

  one_less : is_one ≡ false → now ≡ filter (λ t. not (same_switch t s)) was
  one_less e =
      same_rising id_cmp id_total id_exact now (filter (λ t. not (same_switch t s)) was) now_rises
      (IsStrictlySortedBy-filter id_cmp (λ t. not (same_switch t s)) was was_rises)
      (λ k h. elim (is_or_not s k) [
        | inl is ↦ absurd (false≢true (sym (own_edge ∙ e) ∙ ap (is_edge after) is ∙ (among_filter (is_edge after) k (put_in (switches told) s) h).1))
        | inr apart ↦ among_filtered (λ t. not (same_switch t s)) k was (was_one k apart h) (apart_is s k apart)
      ])
      (λ k h.
      let at = among_filter (λ t. not (same_switch t s)) k was h in
      still_one k (is_apart s k at.1) at.0)

  pub edges_placed : map (λ e. e.switch) (placed_edges after) ≡ with_edge (map (λ e. e.switch) (placed_edges told)) s is_one
  edges_placed =
      sym (placed_in after (switches after)) ∙ ap (filter (is_edge after)) (switches_placed told s place)
      ∙ by is_one refl ∙ ap (λ xs. with_edge xs s is_one) (placed_in told (switches told))
    where
      by : (b : Bool) → is_one ≡ b → now ≡ with_edge was s b
      by true e = one_more e
      by false e = one_less e

-- ---- a switch that is none of them is not taken out
pub without_none : (s : SwitchId) (xs : List SwitchId) → list_any (is_at (id_cmp s)) xs ≡ false → filter (λ t. not (same_switch t s)) xs ≡ xs
without_none s [] e = refl
without_none s (x ∷ xs) e =
    let parts = or_parts (is_at (id_cmp s) x) (list_any (is_at (id_cmp s)) xs) e in
    let rest = without_none s xs parts.1 in
    ap (λ b. cond b (x ∷ filter (λ t. not (same_switch t s)) xs) (filter (λ t. not (same_switch t s)) xs)) (apart_is s x (not_here s x parts.0))
    ∙ ap (λ zs. x ∷ zs) rest

-- a switch that goes into a gap of a list was not there
pub none_at_gap : (xs : List SwitchId) (s : SwitchId) → IsStrictlySortedBy id_cmp xs → (r : Result ℕ ℕ) →
    IfErr r (λ at. insert xs at s ≡ insert_key id_cmp xs s) → IfErr r (λ at. list_any (is_at (id_cmp s)) xs ≡ false)
none_at_gap xs s rising (Ok at) gap = tt
none_at_gap xs s rising (Err at) gap = by (list_any (is_at (id_cmp s)) xs) refl
  where
    by : (b : Bool) → list_any (is_at (id_cmp s)) xs ≡ b → b ≡ false
    by false e = refl
    by true e =
        let same = ap length (gap ∙ insert_nothing xs s rising (id_among s xs e)) in
        absurd (omega (arith, same, one_longer xs at s))
