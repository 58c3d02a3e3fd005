-- A link that is told of again and is as alive as before changes no list, nor does a place that is told again.
use Rattle.std.proofs.Common.{◌≡◌, ◌&&◌, ℕ, Bool, true, false, cond, not, List, [], map, Option, Some, None, refl, sym, ap, ◌∙◌, subst}
use Rattle.std.specs.Prelude.{unwrap_or}
use Rattle.std.specs.List.{filter, filter_map, flat_map, list_any}
use Rattle.std.specs.Ordering.{is_eq}
use Rattle.std.specs.Cmp.{Equal-is}
use Rattle.std.specs.BTreeMap.{is_at}
use Rattle.pl_lemmas.proofs.Exports.{and_turned}
use Rattle.pl_frame.specs.declared.address.SwitchId.{SwitchId}
use Rattle.pl_layouts.specs.declared.place.Place.{Place}
use Rattle.pl_layouts.specs.Equality.{same_switch}
use Rattle.pl_layouts.specs.Placement.{is_known, nowhere}
use Rattle.pl_node.specs.AvoidLists.{avoid_list, avoided_cmp, is_level_above}
use Rattle.pl_node.specs.ManagerViews.{PlacedEdge, Told, edge_at, id_cmp, in_order, is_alive, is_told_usable, link_cmp, neighbours, place_of, placed_edges, switches, tellers, value_at}
use Rattle.pl_node.proofs.Exports.{among_in_order, among_ordered, among_right, id_total, IsAmong}
use Rattle.pl_manager_rule.specs.ManagerRule.{with_link, with_place}
use Rattle.pl_manager_rule.proofs.Exports.{id_among, id_exact, id_is, id_itself, link_exact, neighbours_rise, switches_rise, value_after}
use Rattle.pl_reports.specs.Kept.{has_told}
use Rattle.pl_reports.proofs.Exports.{insert_nothing, key_of_near, link_total, other_neighbours, own_neighbours, switches_linked, switches_placed}
use Rattle.pl_faults.specs.declared.edges.Edge.{Edge}
use Rattle.pl_faults.specs.declared.leading.Leading.{Leading}
use Rattle.pl_faults.specs.declared.reach.Reach.{Reach}
use Rattle.pl_faults.specs.Listed.{is_in}
use Rattle.pl_faults.specs.Rows.{AreLevelRows, IsReach, RowOfSwitch, Rows, leads_by, leads_down, row_of}
use Rattle.pl_faults.specs.Kept.{AreListsAsTold, ListsBySwitch}
use Rattle.pl_faults.specs.Making.{Avoided}
use Rattle.pl_faults.specs.Missed.{AreMissed, Misses, is_upper}
use Rattle.pl_faults.proofs.Anew.{near_key_first}

-- ---- a list by places, links that are alive, neighbours and placed edge switches
module _ (place : SwitchId → Place) (alive : SwitchId → SwitchId → Bool) (near : SwitchId → List SwitchId) where
  abbrev at_level : SwitchId → ℕ → List SwitchId
  at_level s level = filter (λ u. is_known (place u).level level) (filter (alive s) (near s))

  abbrev core_on : ℕ → SwitchId → SwitchId → Bool
  core_on pod t core = list_any (λ a. is_known (place a).pod pod && alive a t) (at_level core 1)

  abbrev on : ℕ → SwitchId → SwitchId → Bool
  on pod t u =
      cond (is_known (place u).level 1) (cond (is_known (place u).pod pod) (alive u t) (list_any (core_on pod t) (at_level u 2)))
      (cond (is_known (place u).level 2) (core_on pod t u) false)

  abbrev cut : SwitchId → SwitchId → PlacedEdge → Bool
  cut s u e =
      not (same_switch e.switch s) && (not (is_known (place s).level 1 && is_known (place s).pod e.pod) && not (on e.pod e.switch u))

  abbrev avoided_by : List PlacedEdge → SwitchId → SwitchId → List Avoided
  avoided_by edges s u = map (λ e. (u, e.pod, e.position)) (filter (cut s u) edges)

  abbrev list_by : List PlacedEdge → SwitchId → List Avoided
  list_by edges s = in_order avoided_cmp (flat_map (avoided_by edges s) (filter (λ u. is_level_above (place s).level (place u).level) (near s)))

list_is : (told : Told) (s : SwitchId) → avoid_list told s ≡ list_by (place_of told) (is_alive told) (neighbours told) (placed_edges told) s
unfolding avoid_list
list_is told s = refl

-- where places, links and neighbours are the same, so is all that is kept
module _ (told after : Told) (places : (x : SwitchId) → place_of after x ≡ place_of told x)
    (alive : (x y : SwitchId) → is_alive after x y ≡ is_alive told x y) (near : (x : SwitchId) → neighbours after x ≡ neighbours told x)
    (heard : switches after ≡ switches told) where
  edges_same : placed_edges after ≡ placed_edges told
  edges_same = λ i. filter_map (λ z. edge_at z (places z i)) (heard i)

  list_same : (t : SwitchId) → avoid_list after t ≡ avoid_list told t
  list_same t =
      list_is after t
      ∙ (λ i. list_by (λ x. places x i) (λ x y. alive x y i) (λ x. near x i) (edges_same i) t)
      ∙ sym (list_is told t)

  heard_same : (t : SwitchId) → has_told after t ≡ has_told told t
  heard_same t = ap (list_any (is_at (id_cmp t))) heard

  missed_same : (edges : List Edge) (missed : Misses) → AreMissed told edges missed → AreMissed after edges missed
  missed_same edges missed h x =
      h x
      ∙ (λ i. cond (is_upper (sym (places x) i).level)
      (filter (λ (e : Edge). not (on (λ z. sym (places z) i) (λ y z. sym (alive y z) i) (λ z. sym (near z) i) e.pod e.switch x)) edges) [])

  rows_same : (level : ℕ) (f g : RowOfSwitch) (edges : List Edge) (rows : Rows) →
      ((u : SwitchId) → row_of f edges u ≡ row_of g edges u) → AreLevelRows told level edges f rows → AreLevelRows after level edges g rows
  rows_same level f g edges rows same h = record {
    all = λ u. h.all u ∙ (λ i. cond (is_known (sym (places u) i).level level) (same u i) []);
  }

  abbrev down_in : (SwitchId → Place) → (SwitchId → SwitchId → Bool) → RowOfSwitch
  down_in place living e u = is_known (place u).pod e.pod && living u e.switch

  abbrev by_in : (SwitchId → Place) → (SwitchId → SwitchId → Bool) → (SwitchId → List SwitchId) → ℕ → RowOfSwitch → RowOfSwitch
  by_in place living around level f e u = list_any (λ x. is_known (place x).level level && f e x) (filter (living u) (around u))

  reach_same : (edges : List Edge) (known : Reach) → IsReach told edges known → IsReach after edges known
  reach_same edges known h =
      record {
        by_link =
            rows_same 1 (leads_down told) (leads_down after) edges known.down.entries
            (λ u i. row_of (down_in (λ z. sym (places z) i) (λ y z. sym (alive y z) i)) edges u) h.by_link;
        by_core =
            rows_same 2 (leads_by told 1 (leads_down told)) (leads_by after 1 (leads_down after)) edges known.core.entries
            (λ u i. row_of (by_in (λ z. sym (places z) i) (λ y z. sym (alive y z) i) (λ z. sym (near z) i) 1
            (down_in (λ z. sym (places z) i) (λ y z. sym (alive y z) i))) edges u) h.by_core;
        by_two =
            rows_same 1 (leads_by told 2 (leads_by told 1 (leads_down told))) (leads_by after 2 (leads_by after 1 (leads_down after))) edges known.up.entries
            (λ u i. row_of (by_in (λ z. sym (places z) i) (λ y z. sym (alive y z) i) (λ z. sym (near z) i) 2
            (by_in (λ z. sym (places z) i) (λ y z. sym (alive y z) i) (λ z. sym (near z) i) 1
            (down_in (λ z. sym (places z) i) (λ y z. sym (alive y z) i)))) edges u) h.by_two;
      }

  alike_kept : (known : Leading) (lists before : ListsBySwitch) → AreListsAsTold told known lists before → AreListsAsTold after known lists before
  alike_kept known lists before kept = record {
    leading = record {
      placed = kept.leading.placed ∙ sym edges_same;
      reach = reach_same known.edges.items known.reach kept.leading.reach;
      missed_are = missed_same known.edges.items known.misses.entries kept.leading.missed_are;
      heard = λ t u h. kept.leading.heard t u (ap (λ us. is_in us u) (sym (near t)) ∙ h);
    };
    listed = record {
      current = λ t. kept.listed.current t ∙ (λ i. cond (sym (heard_same t) i) (Some (sym (list_same t) i)) None);
      heard = λ t e. heard_same t ∙ kept.listed.heard t e;
    };
  }

module _ (told : Told) (s u : SwitchId) (usable : Bool) where
  abbrev after : Told
  after = with_link told s u usable

  pub usable_after : (x y : SwitchId) (own : Bool) → is_eq (link_cmp (x, y) (s, u)) ≡ own → own ≡ false → is_told_usable after x y ≡ is_told_usable told x y
  usable_after x y own is other =
      ap (λ (o : Option Bool). unwrap_or o false)
      (value_after link_cmp link_total link_exact told.links (s, u) (x, y) usable
      ∙ ap (λ b. cond b (Some usable) (value_at link_cmp told.links (x, y))) (is ∙ other))

  alive_after : is_alive after s u ≡ is_alive told s u → (x y : SwitchId) → is_alive after x y ≡ is_alive told x y
  alive_after h x y = by (is_eq (link_cmp (x, y) (s, u))) (is_eq (link_cmp (y, x) (s, u))) refl refl
    where
      same_at : (l : SwitchId × SwitchId) → is_eq (link_cmp l (s, u)) ≡ true → is_alive after l.0 l.1 ≡ is_alive told l.0 l.1
      same_at l e =
          let link : SwitchId × SwitchId = (s, u) in
          let is : l ≡ link = link_exact l link ((Equal-is (link_cmp l link)).0 e) in
          subst (λ (k : SwitchId × SwitchId). is_alive after k.0 k.1 ≡ is_alive told k.0 k.1) (sym is) h

      by : (a b : Bool) → is_eq (link_cmp (x, y) (s, u)) ≡ a → is_eq (link_cmp (y, x) (s, u)) ≡ b → is_alive after x y ≡ is_alive told x y
      by true b e f = same_at (x, y) e
      by false true e f =
          and_turned (is_told_usable after x y) (is_told_usable after y x) ∙ same_at (y, x) f
          ∙ and_turned (is_told_usable told y x) (is_told_usable told x y)
      by false false e f = λ i. usable_after x y false e refl i && usable_after y x false f refl i

  module _ (known : IsAmong u (neighbours told s)) where
    switches_same : switches after ≡ switches told
    switches_same =
        let key = near_key_first told.links s u (key_of_near told.links s u (among_ordered id_cmp u (map (λ l. l.0.1) (filter (λ l. same_switch l.0.0 s) told.links)) known)) in
        switches_linked told s u usable
        ∙ insert_nothing (switches told) s (switches_rise told)
        (among_in_order id_cmp id_exact s (tellers told) (among_right s (map (λ p. p.0) told.places) (map (λ l. l.0.0) told.links) key))

    near_same : (t : SwitchId) → neighbours after t ≡ neighbours told t
    near_same t = by (is_at (id_cmp s) t) refl
      where
        by : (b : Bool) → is_at (id_cmp s) t ≡ b → neighbours after t ≡ neighbours told t
        by true e =
            subst (λ z. neighbours after z ≡ neighbours told z) (id_is s t e)
            (own_neighbours told s u usable ∙ insert_nothing (neighbours told s) u (neighbours_rise told s) known)
        by false e =
            other_neighbours told s u usable t
            (λ is. let so : is_at (id_cmp s) t ≡ true = subst (λ z. is_at (id_cmp s) z ≡ true) is (id_itself s) in absurd (cc))

    pub known_kept : is_alive after s u ≡ is_alive told s u → (known : Leading) (lists before : ListsBySwitch) →
        AreListsAsTold told known lists before → AreListsAsTold after known lists before
    known_kept h = alike_kept told after (λ x. refl) (alive_after h) near_same switches_same

-- a place that is told again
pub place_kept : (told : Told) (s : SwitchId) (place : Place) → has_told told s ≡ true → place ≡ place_of told s →
    (known : Leading) (lists before : ListsBySwitch) → AreListsAsTold told known lists before → AreListsAsTold (with_place told s place) known lists before
place_kept told s place heard is =
    alike_kept told (with_place told s place) same (λ x y. refl) (λ x. refl)
    (switches_placed told s place ∙ insert_nothing (switches told) s (switches_rise told) (id_among s (switches told) heard))
  where
    same : (x : SwitchId) → place_of (with_place told s place) x ≡ place_of told x
    same x =
        ap (λ (o : Option Place). unwrap_or o nowhere) (value_after id_cmp id_total id_exact told.places s x place) ∙ by (is_at (id_cmp x) s) refl
      where
        by : (b : Bool) → is_at (id_cmp x) s ≡ b → unwrap_or (cond b (Some place) (value_at id_cmp told.places x)) nowhere ≡ place_of told x
        by true e = is ∙ ap (place_of told) (sym (id_is x s e))
        by false e = refl
