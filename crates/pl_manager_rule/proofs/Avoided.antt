-- An avoid list is all that its switch avoids, in rising order.
use Rattle.std.proofs.Common.{◌≡◌, ℕ, ◌==◌, ◌&&◌, not, Bool, true, false, cond, List, [], ◌∷◌, map, Option, Some, None, Less, nat_cmp, refl, sym, ap, subst, inl, inr}
use Rattle.std.specs.Prelude.{Contains, unwrap_or}
use Rattle.std.specs.List.{AllByRecursion, cons_option, filter, filter_map, flat_map, list_any}
use Rattle.std.proofs.lemmas.List.Kept.{IsStrictlySortedBy-filter}
use Rattle.pl_layouts.specs.Memberships.{flood}
use Rattle.pl_layouts.specs.Placement.{nowhere}
use Rattle.pl_manager_rule.proofs.Tables.{found_key}
use Rattle.pl_node.specs.Trees.{needed_edges}
use Rattle.pl_node.specs.ManagerFacts.{groups}
use Rattle.std.specs.List.Sorted.{IsStrictlySortedBy}
use Rattle.std.specs.Ordering.{is_eq}
use Rattle.std.specs.Cmp.{Equal-is}
use Rattle.std.proofs.lemmas.Bool.{and_from, cond_both, and_parts, eqb-true, not-true, not_from_false, false≢true, or_cases}
use Rattle.std.proofs.lemmas.Cmp.{nat_cmp_total, tied_itself}
use Rattle.std.specs.BTreeMap.{is_at}
use Rattle.pl_frame.specs.declared.address.SwitchId.{SwitchId}
use Rattle.pl_layouts.specs.declared.place.Place.{Place}
use Rattle.pl_node.specs.ManagerViews.{Members, PlacedEdge, Told, alive_at_level, alive_neighbours, edge_at, edge_with, has_level, id_cmp, is_alive, neighbours, place_of, placed_edges, switches, tellers, value_at, with_members}
use Rattle.pl_node.specs.AvoidLists.{Avoids, avoid_list, avoided_at, avoided_cmp, is_above, is_cut, is_sent_down, leads_to}
use Rattle.pl_node.proofs.Exports.{avoided_exact, avoided_total, id_exact, among_filter, among_filter_map, among_filter_mapped, among_filtered, among_flat_map, among_flat_mapped, among_in_order, among_left, among_map, among_mapped, among_of_Contains, among_ordered, Contains-of_among, id_total, IsAmong, rising_in_order}
use Rattle.pl_layouts.specs.Equality.{same_switch}

-- ---- the orders
pub same_is : (a b : SwitchId) → same_switch a b ≡ true → a ≡ b
same_is a b e = ap (λ n. let s : SwitchId = record { 0 = n } in s) (eqb-true a.0 b.0 e)

-- ---- placed edge switches
-- one that told a level told something
pub teller_of_level : (told : Told) (s : SwitchId) (n : ℕ) → (place_of told s).level ≡ Some n → IsAmong s (tellers told)
teller_of_level told s n e = by (value_at id_cmp told.places s) refl e
  where
    by : (o : Option Place) → value_at id_cmp told.places s ≡ o → (unwrap_or o nowhere).level ≡ Some n → IsAmong s (tellers told)
    by None found k = let none : None ≡ Some n = k in cc
    by (Some place) found k =
        among_left s (map (λ p. p.0) told.places) (map (λ l. l.0.0) told.links) (found_key id_cmp id_exact told.places s place found)

pub record IsPlacedAs (s : SwitchId) (at : Place) (e : PlacedEdge) : Type 0 where
  pub switch : e.switch ≡ s
  pub place : at ≡ record { level = Some 0; position = Some e.position; pod = Some e.pod }

placed_with : (s : SwitchId) (e : PlacedEdge) (level position pod : Option ℕ) → edge_with s level position pod ≡ Some e →
    IsPlacedAs s (record { level = level; position = position; pod = pod }) e
placed_with s e (Some level) (Some position) (Some pod) h = by (level == 0) refl h
  where
    by : (b : Bool) → (level == 0) ≡ b →
        cond b (Some (let x : PlacedEdge = record { switch = s; pod = pod; position = position } in x)) None ≡ Some e →
        IsPlacedAs s (record { level = Some level; position = Some position; pod = Some pod }) e
    by true edge k =
        let x : PlacedEdge = record { switch = s; pod = pod; position = position } in
        let is : x ≡ e = cc in
        record {
          switch = sym (ap (λ r. r.switch) is);
          place = λ i. record { level = Some (eqb-true level 0 edge i); position = Some (is i).position; pod = Some (is i).pod };
        }
    by false other k = let none : None ≡ Some e = k in cc
placed_with s e None position pod h = let none : None ≡ Some e = h in cc
placed_with s e (Some level) None pod h = let none : None ≡ Some e = h in cc
placed_with s e (Some level) (Some position) None h = let none : None ≡ Some e = h in cc

-- the switches of a list of what was told
pub among_switches : (told : Told) (s : SwitchId) → IsAmong s (tellers told) → IsAmong s (switches told)
among_switches told s h = among_in_order id_cmp id_exact s (tellers told) h

-- a placed edge switch is among those that are listed, and only such a one
pub among_placed : (told : Told) (e : PlacedEdge) → IsAmong e (placed_edges told) → IsPlacedAs e.switch (place_of told e.switch) e
among_placed told e h =
    let at = among_filter_map (λ s. edge_at s (place_of told s)) e (switches told) h in
    let is = placed_with at.0 e (place_of told at.0).level (place_of told at.0).position (place_of told at.0).pod at.2 in
    subst (λ s. IsPlacedAs s (place_of told s) e) (sym is.switch) is

pub placed_among : (told : Told) (e : PlacedEdge) →
    place_of told e.switch ≡ record { level = Some 0; position = Some e.position; pod = Some e.pod } →
    IsAmong e (placed_edges told)
placed_among told e h =
    among_filter_mapped (λ s. edge_at s (place_of told s)) e e.switch (switches told)
    (among_switches told e.switch (teller_of_level told e.switch 0 (ap (λ p. p.level) h)))
    (ap (edge_at e.switch) h)

-- ---- the list
abbrev entry : SwitchId → PlacedEdge → SwitchId × ℕ × ℕ
entry u e = (u, e.pod, e.position)

avoids_entry : (told : Told) (s u : SwitchId) (e : PlacedEdge) → IsAmong u (neighbours told s) → is_above told s u ≡ true →
    IsPlacedAs e.switch (place_of told e.switch) e → is_cut told s u e ≡ true → Avoids told s (entry u e)
avoids_entry told s u e near above placed cut =
    let one = and_parts (not (same_switch e.switch s)) (not (is_sent_down told s e.pod) && not (leads_to told e.pod e.switch u)) cut in
    let two = and_parts (not (is_sent_down told s e.pod)) (not (leads_to told e.pod e.switch u)) one.1 in
    record {
      neighbour = Contains-of_among u (neighbours told s) near;
      above = above;
      edge = e.switch;
      placed = placed.place;
      another = not-true (same_switch e.switch s) one.0;
      not_down = not-true (is_sent_down told s e.pod) two.0;
      cut = not-true (leads_to told e.pod e.switch u) two.1;
    }

pub listed_is_avoided : (told : Told) (s : SwitchId) (x : SwitchId × ℕ × ℕ) → Contains (avoid_list told s) x → Avoids told s x
unfolding avoid_list
listed_is_avoided told s x h =
    let near = filter (is_above told s) (neighbours told s) in
    let u = among_flat_map (avoided_at told s) x near (among_ordered avoided_cmp x _ (among_of_Contains x (avoid_list told s) h)) in
    let above = among_filter (is_above told s) u.0 (neighbours told s) u.1 in
    let e = among_map (entry u.0) x (filter (is_cut told s u.0) (placed_edges told)) u.2 in
    let cut = among_filter (is_cut told s u.0) e.0 (placed_edges told) e.1 in
    subst (Avoids told s) e.2 (avoids_entry told s u.0 e.0 above.0 above.1 (among_placed told e.0 cut.0) cut.1)

pub avoided_is_listed : (told : Told) (s : SwitchId) (x : SwitchId × ℕ × ℕ) → Avoids told s x → Contains (avoid_list told s) x
unfolding avoid_list
avoided_is_listed told s x h =
    let e : PlacedEdge = record { switch = h.edge; pod = x.1; position = x.2 } in
    let cut : is_cut told s x.0 e ≡ true =
    and_from (not (same_switch h.edge s)) (not (is_sent_down told s x.1) && not (leads_to told x.1 h.edge x.0))
    (not_from_false (same_switch h.edge s) h.another)
    (and_from (not (is_sent_down told s x.1)) (not (leads_to told x.1 h.edge x.0))
    (not_from_false (is_sent_down told s x.1) h.not_down) (not_from_false (leads_to told x.1 h.edge x.0) h.cut)) in
    let at : IsAmong x (avoided_at told s x.0) =
    among_mapped (entry x.0) e (filter (is_cut told s x.0) (placed_edges told))
    (among_filtered (is_cut told s x.0) e (placed_edges told) (placed_among told e h.placed) cut) in
    let near = among_filtered (is_above told s) x.0 (neighbours told s) (among_of_Contains x.0 (neighbours told s) h.neighbour) h.above in
    Contains-of_among x (avoid_list told s)
    (among_in_order avoided_cmp avoided_exact x _
    (among_flat_mapped (avoided_at told s) x x.0 (filter (is_above told s) (neighbours told s)) near at))

pub avoid_list_rises : (told : Told) (s : SwitchId) → IsStrictlySortedBy avoided_cmp (avoid_list told s)
unfolding avoid_list
avoid_list_rises told s = rising_in_order avoided_cmp avoided_total (flat_map (avoided_at told s) (filter (is_above told s) (neighbours told s)))

-- ---- the other lists of switches
module _ (told : Told) where
  abbrev edges : List SwitchId → List SwitchId
  edges ss = map (λ e. e.switch) (filter_map (λ s. edge_at s (place_of told s)) ss)

  below_edges : (a : SwitchId) (ss : List SwitchId) → AllByRecursion (λ b. id_cmp a b ≡ Less) ss → AllByRecursion (λ b. id_cmp a b ≡ Less) (edges ss)
  below_edges a [] h = tt
  below_edges a (s ∷ ss) h = by (below_edges a ss h.1) (edge_at s (place_of told s)) refl
    where
      by : AllByRecursion (λ b. id_cmp a b ≡ Less) (edges ss) → (o : Option PlacedEdge) → edge_at s (place_of told s) ≡ o →
          AllByRecursion (λ b. id_cmp a b ≡ Less) (map (λ e. e.switch) (cons_option o (filter_map (λ c. edge_at c (place_of told c)) ss)))
      by rest None e = rest
      by rest (Some x) e =
          let is = placed_with s x (place_of told s).level (place_of told s).position (place_of told s).pod e in
          (subst (λ b. id_cmp a b ≡ Less) (sym is.switch) h.0, rest)

  edges_rise : (ss : List SwitchId) → IsStrictlySortedBy id_cmp ss → IsStrictlySortedBy id_cmp (edges ss)
  unfolding IsStrictlySortedBy
  edges_rise [] h = tt
  edges_rise (s ∷ ss) h = by (edges_rise ss h.1) (edge_at s (place_of told s)) refl
    where
      by : IsStrictlySortedBy id_cmp (edges ss) → (o : Option PlacedEdge) → edge_at s (place_of told s) ≡ o →
          IsStrictlySortedBy id_cmp (map (λ e. e.switch) (cons_option o (filter_map (λ c. edge_at c (place_of told c)) ss)))
      by rest None e = rest
      by rest (Some x) e =
          let is = placed_with s x (place_of told s).level (place_of told s).position (place_of told s).pod e in
          (subst (λ a. AllByRecursion (λ b. id_cmp a b ≡ Less) (edges ss)) (sym is.switch) (below_edges s ss h.0), rest)

  pub switches_rise : IsStrictlySortedBy id_cmp (switches told)
  switches_rise = rising_in_order id_cmp id_total (tellers told)

  pub neighbours_rise : (s : SwitchId) → IsStrictlySortedBy id_cmp (neighbours told s)
  neighbours_rise s = rising_in_order id_cmp id_total (map (λ l. l.0.1) (filter (λ l. same_switch l.0.0 s) told.links))

  pub alive_rise : (s : SwitchId) (level : ℕ) → IsStrictlySortedBy id_cmp (alive_at_level told s level)
  alive_rise s level =
      IsStrictlySortedBy-filter id_cmp (λ u. has_level told u level) (alive_neighbours told s)
      (IsStrictlySortedBy-filter id_cmp (is_alive told s) (neighbours told s) (neighbours_rise s))

  pub needed_rise : (members : Members) (group : ℕ) → IsStrictlySortedBy id_cmp (needed_edges told members group)
  needed_rise members group =
      cond_both (group == flood) (map (λ e. e.switch) (placed_edges told)) (with_members members group)
      (IsStrictlySortedBy id_cmp)
      (λ all. edges_rise (switches told) switches_rise)
      (λ some. rising_in_order id_cmp id_total (map (λ m. m.0.0) (filter (λ m. m.0.1 == group && m.1) members)))

pub groups_rise : (members : Members) → IsStrictlySortedBy nat_cmp (groups members)
groups_rise members = rising_in_order nat_cmp nat_cmp_total (flood ∷ map (λ m. m.0.1) members)

pub id_is : (s t : SwitchId) → is_at (id_cmp s) t ≡ true → s ≡ t
id_is s t e = id_exact s t ((Equal-is (id_cmp s t)).0 e)

pub id_itself : (s : SwitchId) → is_at (id_cmp s) s ≡ true
id_itself s = ap is_eq (tied_itself id_total s)

pub id_among : (s : SwitchId) (xs : List SwitchId) → list_any (is_at (id_cmp s)) xs ≡ true → IsAmong s xs
id_among s [] e = absurd (false≢true e)
id_among s (x ∷ xs) e = elim (or_cases (is_at (id_cmp s) x) (list_any (is_at (id_cmp s)) xs) e) [
  | inl here ↦ inl (sym (id_is s x here))
  | inr there ↦ inr (id_among s xs there)
]
