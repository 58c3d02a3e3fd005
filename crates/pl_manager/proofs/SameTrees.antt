-- A link that is as alive as before changes no tree, nor does a place that is told again.
use Rattle.std.proofs.Common.{◌≡◌, ◌&&◌, ◌==◌, ℕ, not, Bool, true, false, cond, List, [], ◌∷◌, map, length, Option, Some, None, Ordering, Less, Equal, Greater, refl, sym, ap, ◌∙◌, subst}
use Rattle.std.specs.Prelude.{unwrap_or}
use Rattle.std.specs.List.{cons_option, filter, filter_map, find, list_any}
use Rattle.std.specs.Option.{option_and_then, option_map}
use Rattle.std.specs.Ordering.{is_eq, match_ordering}
use Rattle.std.specs.Cmp.{Equal-is}
use Rattle.std.specs.BTreeMap.{is_at}
use Rattle.std.specs.BTreeSet.{insert_key}
use Rattle.pl_frame.specs.declared.address.SwitchId.{SwitchId}
use Rattle.pl_layouts.specs.declared.place.Place.{Place}
use Rattle.pl_layouts.specs.Equality.{same_switch}
use Rattle.pl_layouts.specs.Memberships.{flood}
use Rattle.pl_layouts.specs.Placement.{is_known, nowhere}
use Rattle.pl_node.specs.declared.messages.TreePart.{TreePart}
use Rattle.pl_node.specs.ManagerViews.{Members, PlacedEdge, Told, alive_neighbours, edge_at, has_level, id_cmp, is_alive, is_told_usable, link_cmp, neighbours, place_of, placed_edges, switches, tellers, value_at, with_members}
use Rattle.pl_node.specs.Trees.{core_for, core_of, cores, largest, needed_edges, tree_part, turn}
use Rattle.pl_node.proofs.Exports.{among_in_order, among_left, id_total}
use Rattle.pl_manager_rule.specs.ManagerRule.{with_link, with_place}
use Rattle.pl_manager_rule.proofs.Exports.{found_key, id_exact, id_is, id_itself, link_exact, neighbours_rise, switches_rise, value_after}
use Rattle.pl_reports.proofs.Exports.{insert_nothing, link_total, other_neighbours, own_neighbours, switches_linked, switches_placed}
use Rattle.pl_groups.proofs.Exports.{alive_back, alive_neighbour}

-- ---- a tree by places, links that are alive, neighbours over those, and core switches
module _ (place : SwitchId → Place) (alive : SwitchId → SwitchId → Bool) (near : SwitchId → List SwitchId) where
  abbrev at_level : SwitchId → ℕ → List SwitchId
  at_level s level = filter (λ u. is_known (place u).level level) (near s)

  abbrev reach_by : List SwitchId → SwitchId → ℕ
  reach_by needed core = length (filter (λ e. list_any (λ a. alive a e) (at_level core 1)) needed)

  abbrev best_by : List SwitchId → List SwitchId → List SwitchId
  best_by all needed = filter (λ c. reach_by needed c == largest (map (reach_by needed) all)) all

  abbrev core_by : List SwitchId → ℕ → List SwitchId → Option SwitchId
  core_by all group [] = None
  core_by all group (e ∷ needed) = turn group (best_by all (e ∷ needed))

  abbrev core_part_by : List SwitchId → SwitchId → TreePart
  core_part_by needed core = record { up = None; down = filter (λ a. list_any (alive a) needed) (at_level core 1) }

  abbrev aggregation_part_by : List SwitchId → SwitchId → SwitchId → TreePart
  aggregation_part_by needed core a = record { up = Some core; down = filter (alive a) needed }

  abbrev edge_part_by : SwitchId → PlacedEdge → TreePart
  edge_part_by core e = record { up = find (λ a. is_known (place a).pod e.pod && alive a core) (at_level e.switch 1); down = [] }

  abbrev under_by : List SwitchId → SwitchId → SwitchId → Option TreePart
  under_by needed s core =
      cond (same_switch s core) (Some (core_part_by needed core))
      (cond (is_known (place s).level 1 && alive s core) (Some (aggregation_part_by needed core s)) (option_map (edge_part_by core) (edge_at s (place s))))

  abbrev tree_by : List SwitchId → List SwitchId → ℕ → SwitchId → Option TreePart
  tree_by all needed group s = option_and_then (under_by needed s) (core_by all group needed)

core_is : (told : Told) (group : ℕ) (needed : List SwitchId) →
    core_for told group needed ≡ core_by (place_of told) (is_alive told) (alive_neighbours told) (cores told) group needed
core_is told group [] = refl
core_is told group (e ∷ needed) = refl

tree_is : (told : Told) (members : Members) (group : ℕ) (s : SwitchId) → tree_part told members group s
    ≡ tree_by (place_of told) (is_alive told) (alive_neighbours told) (cores told) (needed_edges told members group) group s
unfolding tree_part core_of
tree_is told members group s =
    let needed = needed_edges told members group in
    ap (option_and_then (under_by (place_of told) (is_alive told) (alive_neighbours told) needed s)) (core_is told group needed)

-- ---- one more among them

-- that does not pass
filter_without : (p : SwitchId → Bool) (xs : List SwitchId) (k : SwitchId) → p k ≡ false → filter p (insert_key id_cmp xs k) ≡ filter p xs
filter_without p [] k not = ap (λ b. cond b (k ∷ []) []) not
filter_without p (x ∷ xs) k not = by (filter_without p xs k not) (id_cmp k x)
  where
    by : filter p (insert_key id_cmp xs k) ≡ filter p xs → (o : Ordering) →
        filter p (match_ordering o (k ∷ x ∷ xs) (x ∷ xs) (x ∷ insert_key id_cmp xs k)) ≡ filter p (x ∷ xs)
    by rest Less = ap (λ b. cond b (k ∷ filter p (x ∷ xs)) (filter p (x ∷ xs))) not
    by rest Equal = refl
    by rest Greater = ap (λ zs. cond (p x) (x ∷ zs) zs) rest

-- of which nothing comes
map_without : {X : Type 0} (f : SwitchId → Option X) (xs : List SwitchId) (k : SwitchId) → f k ≡ None →
    filter_map f (insert_key id_cmp xs k) ≡ filter_map f xs
map_without f [] k none = ap (λ o. cons_option o []) none
map_without f (x ∷ xs) k none = by (map_without f xs k none) (id_cmp k x)
  where
    by : filter_map f (insert_key id_cmp xs k) ≡ filter_map f xs → (o : Ordering) →
        filter_map f (match_ordering o (k ∷ x ∷ xs) (x ∷ xs) (x ∷ insert_key id_cmp xs k)) ≡ filter_map f (x ∷ xs)
    by rest Less = ap (λ o. cons_option o (filter_map f (x ∷ xs))) none
    by rest Equal = refl
    by rest Greater = ap (λ zs. cons_option (f x) zs) rest

-- ---- one more switch, which is at no place where it told nothing before
module _ (told : Told) (s : SwitchId) where
  among_switches : (place : Place) → value_at id_cmp told.places s ≡ Some place → insert_key id_cmp (switches told) s ≡ switches told
  among_switches place found =
      insert_nothing (switches told) s (switches_rise told)
      (among_in_order id_cmp id_exact s (tellers told)
      (among_left s (map (λ p. p.0) told.places) (map (λ l. l.0.0) told.links) (found_key id_cmp id_exact told.places s place found)))

  cores_with : filter (λ c. has_level told c 2) (insert_key id_cmp (switches told) s) ≡ cores told
  cores_with = by (value_at id_cmp told.places s) refl
    where
      by : (o : Option Place) → value_at id_cmp told.places s ≡ o → filter (λ c. has_level told c 2) (insert_key id_cmp (switches told) s) ≡ cores told
      by (Some place) e = ap (filter (λ c. has_level told c 2)) (among_switches place e)
      by None e = filter_without (λ c. has_level told c 2) (switches told) s (ap (λ (o : Option Place). is_known (unwrap_or o nowhere).level 2) e)

  edges_with : filter_map (λ z. edge_at z (place_of told z)) (insert_key id_cmp (switches told) s) ≡ placed_edges told
  edges_with = by (value_at id_cmp told.places s) refl
    where
      by : (o : Option Place) → value_at id_cmp told.places s ≡ o →
          filter_map (λ z. edge_at z (place_of told z)) (insert_key id_cmp (switches told) s) ≡ placed_edges told
      by (Some place) e = ap (filter_map (λ z. edge_at z (place_of told z))) (among_switches place e)
      by None e = map_without (λ z. edge_at z (place_of told z)) (switches told) s (ap (λ (o : Option Place). edge_at s (unwrap_or o nowhere)) e)

-- ---- a link
module _ (told : Told) (s u : SwitchId) (usable : Bool) (h : is_alive (with_link told s u usable) s u ≡ is_alive told s u) where
  abbrev after : Told
  after = with_link told s u usable

  usable_after : (x y : SwitchId) → is_eq (link_cmp (x, y) (s, u)) ≡ false → is_told_usable after x y ≡ is_told_usable told x y
  usable_after x y other =
      ap (λ (o : Option Bool). unwrap_or o false)
      (value_after link_cmp link_total link_exact told.links (s, u) (x, y) usable
      ∙ ap (λ b. cond b (Some usable) (value_at link_cmp told.links (x, y))) other)

  alive_after : (x y : SwitchId) → is_alive after x y ≡ is_alive told x y
  alive_after x y = by (is_eq (link_cmp (x, y) (s, u))) (is_eq (link_cmp (y, x) (s, u))) refl refl
    where
      same_at : (l : SwitchId × SwitchId) → is_eq (link_cmp l (s, u)) ≡ true → is_alive after l.0 l.1 ≡ is_alive told l.0 l.1
      same_at l e =
          let link : SwitchId × SwitchId = (s, u) in
          let is : l ≡ link = link_exact l link ((Equal-is (link_cmp l link)).0 e) in
          subst (λ (k : SwitchId × SwitchId). is_alive after k.0 k.1 ≡ is_alive told k.0 k.1) (sym is) h

      by : (a b : Bool) → is_eq (link_cmp (x, y) (s, u)) ≡ a → is_eq (link_cmp (y, x) (s, u)) ≡ b → is_alive after x y ≡ is_alive told x y
      by true b e f = same_at (x, y) e
      by false true e f = alive_back after x y ∙ same_at (y, x) f ∙ alive_back told y x
      by false false e f = λ i. usable_after x y e i && usable_after y x f i

  -- the neighbours over links that are alive
  own_near : (b : Bool) → is_alive told s u ≡ b → filter (is_alive told s) (insert_key id_cmp (neighbours told s) u) ≡ filter (is_alive told s) (neighbours told s)
  own_near true e = ap (filter (is_alive told s)) (insert_nothing (neighbours told s) u (neighbours_rise told s) (alive_neighbour told s u e))
  own_near false e = filter_without (is_alive told s) (neighbours told s) u e

  near_after : (t : SwitchId) → alive_neighbours after t ≡ alive_neighbours told t
  near_after t = (λ i. filter (λ x. alive_after t x i) (neighbours after t)) ∙ by (is_at (id_cmp s) t) refl
    where
      by : (b : Bool) → is_at (id_cmp s) t ≡ b → filter (is_alive told t) (neighbours after t) ≡ filter (is_alive told t) (neighbours told t)
      by true e =
          subst (λ z. filter (is_alive told z) (neighbours after z) ≡ filter (is_alive told z) (neighbours told z)) (id_is s t e)
          (ap (filter (is_alive told s)) (own_neighbours told s u usable) ∙ own_near (is_alive told s u) refl)
      by false e =
          ap (filter (is_alive told t)) (other_neighbours told s u usable t
          (λ is. let so : is_at (id_cmp s) t ≡ true = subst (λ z. is_at (id_cmp s) z ≡ true) is (id_itself s) in absurd (cc)))

  cores_after : cores after ≡ cores told
  cores_after = ap (filter (λ c. has_level told c 2)) (switches_linked told s u usable) ∙ cores_with told s

  edges_after : placed_edges after ≡ placed_edges told
  edges_after = ap (filter_map (λ z. edge_at z (place_of told z))) (switches_linked told s u usable) ∙ edges_with told s

  needed_after : (members : Members) (group : ℕ) → needed_edges after members group ≡ needed_edges told members group
  needed_after members group = ap (λ es. cond (group == flood) (map (λ (e : PlacedEdge). e.switch) es) (with_members members group)) edges_after

  pub tree_stays : (members : Members) (group : ℕ) (t : SwitchId) → tree_part after members group t ≡ tree_part told members group t
  tree_stays members group t =
      tree_is after members group t
      ∙ (λ i. tree_by (place_of told) (λ x y. alive_after x y i) (λ z. near_after z i) (cores_after i) (needed_after members group i) group t)
      ∙ sym (tree_is told members group t)

-- ---- a place that is told again
module _ (told : Told) (s : SwitchId) (place : Place) (h : place_of told s ≡ place) where
  abbrev placed : Told
  placed = with_place told s place

  place_after : (t : SwitchId) → place_of placed t ≡ place_of told t
  place_after t = ap (λ (o : Option Place). unwrap_or o nowhere) (value_after id_cmp id_total id_exact told.places s t place) ∙ by (is_eq (id_cmp t s)) refl
    where
      by : (b : Bool) → is_eq (id_cmp t s) ≡ b → unwrap_or (cond b (Some place) (value_at id_cmp told.places t)) nowhere ≡ place_of told t
      by true e = sym h ∙ ap (place_of told) (sym (id_exact t s ((Equal-is (id_cmp t s)).0 e)))
      by false e = refl

  cores_placed : cores placed ≡ cores told
  cores_placed = (λ i. filter (λ c. is_known (place_after c i).level 2) (switches_placed told s place i)) ∙ cores_with told s

  edges_placed : placed_edges placed ≡ placed_edges told
  edges_placed = (λ i. filter_map (λ z. edge_at z (place_after z i)) (switches_placed told s place i)) ∙ edges_with told s

  needed_placed : (members : Members) (group : ℕ) → needed_edges placed members group ≡ needed_edges told members group
  needed_placed members group = ap (λ es. cond (group == flood) (map (λ (e : PlacedEdge). e.switch) es) (with_members members group)) edges_placed

  pub tree_as_placed : (members : Members) (group : ℕ) (t : SwitchId) → tree_part placed members group t ≡ tree_part told members group t
  tree_as_placed members group t =
      tree_is placed members group t
      ∙ (λ i. tree_by (λ z. place_after z i) (is_alive told) (alive_neighbours told) (cores_placed i) (needed_placed members group i) group t)
      ∙ sym (tree_is told members group t)
