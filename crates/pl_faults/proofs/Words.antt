-- What one word leaves of what all other switches told.
use Rattle.std.proofs.Common.{◌≡◌, ◌⊎◌, ◌&&◌, ℕ, Bool, true, false, cond, List, [], ◌∷◌, map, Option, Some, None, refl, sym, ap, ◌∙◌, subst, inl, inr}
use Rattle.std.specs.Prelude.{is_some, unwrap_or}
use Rattle.std.specs.List.{cons_option, filter, filter_map, list_any}
use Rattle.std.specs.Ordering.{is_eq}
use Rattle.std.specs.Cmp.{Equal-is}
use Rattle.std.specs.BTreeMap.{is_at}
use Rattle.std.specs.BTreeSet.{insert_key}
use Rattle.std.proofs.lemmas.Bool.{false_from_ne_true, false≢true}
use Rattle.pl_frame.specs.declared.address.SwitchId.{SwitchId}
use Rattle.pl_layouts.specs.declared.place.Place.{Place}
use Rattle.pl_layouts.specs.Equality.{same_switch}
use Rattle.pl_layouts.specs.Placement.{nowhere}
use Rattle.pl_layouts.proofs.Exports.{switch_itself}
use Rattle.pl_node.specs.ManagerViews.{PlacedEdge, Told, alive_neighbours, edge_at, edge_with, id_cmp, link_cmp, neighbours, place_of, placed_edges, switches, value_at}
use Rattle.pl_node.proofs.Exports.{among_filter, among_filtered, among_insert, among_map, any_among, id_total, IsAmong}
use Rattle.pl_manager_rule.specs.ManagerRule.{with_link, with_place}
use Rattle.pl_manager_rule.proofs.Exports.{id_among, id_exact, id_is, id_itself, link_exact, value_after, value_put}
use Rattle.pl_reports.specs.Kept.{has_told, near_of, with_edge, with_neighbour}
use Rattle.pl_reports.proofs.Exports.{edges_linked, edges_placed, is_edge, IsPair, other_neighbours, own_neighbours, placed_in, switches_linked, switches_placed, without_none}
use Rattle.pl_faults.specs.declared.edges.Edge.{Edge}
use Rattle.pl_faults.specs.Kept.{IsLinkWord, IsPlaceWord}
use Rattle.pl_faults.specs.Listed.{AreHeard, Hearers, is_in}
use Rattle.pl_faults.specs.Making.{placed_as}
use Rattle.pl_faults.proofs.Anew.{among_told, at_turned, still_linked, still_placed}
use Rattle.pl_faults.proofs.Gathered.{in_itself, in_more}
use Rattle.pl_faults.proofs.Made.{edge_in, edges_again}
use Rattle.pl_faults.proofs.Reaching.{level_told}
use Rattle.pl_faults.proofs.Unchanged.{usable_after}

-- a switch that is not the one that told is heard just where it was
other_heard : (told after : Told) (s t : SwitchId) → switches after ≡ insert_key id_cmp (switches told) s →
    (has_told told t ≡ true → has_told after t ≡ true) → is_at (id_cmp s) t ≡ false → has_told after t ≡ has_told told t
other_heard told after s t is stays other = by (has_told after t) (has_told told t) refl refl
  where
    by : (a b : Bool) → has_told after t ≡ a → has_told told t ≡ b → a ≡ b
    by true true e f = refl
    by false false e f = refl
    by false true e f = sym e ∙ stays f
    by true false e f =
        elim (among_insert id_cmp s t (switches told) (subst (IsAmong t) is (id_among t (switches after) e))) [
          | inl here ↦ absurd (false≢true (sym other ∙ subst (λ z. is_at (id_cmp s) z ≡ true) here (id_itself s)))
          | inr there ↦ sym (among_told t (switches told) there) ∙ f
        ]

-- ---- a place
unplaced : (o : Option PlacedEdge) → is_some o ≡ false → o ≡ None
unplaced None e = refl
unplaced (Some x) e = absurd (false≢true (sym e))

same_placed : (f g : SwitchId → Option PlacedEdge) → ((x : SwitchId) → f x ≡ g x) → (xs : List SwitchId) → filter_map f xs ≡ filter_map g xs
same_placed f g h [] = refl
same_placed f g h (x ∷ xs) = λ i. cons_option (h x i) (same_placed f g h xs i)

module _ (told : Told) (s : SwitchId) (place : Place) where
  abbrev placed : Told
  placed = with_place told s place

  other_place : (t : SwitchId) → is_at (id_cmp s) t ≡ false → place_of placed t ≡ place_of told t
  other_place t other =
      ap (λ (o : Option Place). unwrap_or o nowhere)
      (value_after id_cmp id_total id_exact told.places s t place
      ∙ ap (λ b. cond b (Some place) (value_at id_cmp told.places t)) (sym (at_turned s t) ∙ other))

  unplaced_edges : is_some (edge_at s (place_of told s)) ≡ false → is_some (edge_at s (place_of placed s)) ≡ false → placed_edges placed ≡ placed_edges told
  unplaced_edges was now =
      let before = map (λ e. e.switch) (placed_edges told) in
      let own : is_some (edge_at s place) ≡ false =
      sym (ap (λ (o : Option Place). is_some (edge_at s (unwrap_or o nowhere))) (value_put id_cmp id_total told.places s place)) ∙ now in
      let out : is_in before s ≡ false =
      false_from_ne_true (is_in before s)
      (λ there.
      let among = subst (IsAmong s) (sym (placed_in told (switches told))) (id_among s before there) in
      false≢true (sym was ∙ (among_filter (is_edge told) s (switches told) among).1)) in
      sym (edges_again placed)
      ∙ ap (filter_map (edge_in placed)) (edges_placed told s place ∙ ap (with_edge before s) own ∙ without_none s before out)
      ∙ same_placed (edge_in placed) (edge_in told) same before ∙ edges_again told
    where
      same : (x : SwitchId) → edge_in placed x ≡ edge_in told x
      same x = by (is_at (id_cmp s) x) refl
        where
          by : (b : Bool) → is_at (id_cmp s) x ≡ b → edge_in placed x ≡ edge_in told x
          by true e = subst (λ z. edge_in placed z ≡ edge_in told z) (id_is s x e) (unplaced (edge_in placed s) now ∙ sym (unplaced (edge_in told s) was))
          by false e = ap (edge_at x) (other_place x e)

  pub word_of_place : IsPlaceWord s told placed
  word_of_place = record {
    word = record {
      place = other_place;
      near = λ t other. refl;
      others = λ t other. other_heard told placed s t (switches_placed told s place) (still_placed told s place t) other;
      itself = ap (list_any (is_at (id_cmp s))) (switches_placed told s place) ∙ in_itself s (switches told);
    };
    near = λ t. refl;
    beside = λ t. refl;
    edges = unplaced_edges;
  }

unlevelled : (s : SwitchId) (a b d : Option ℕ) → ((n : ℕ) → a ≡ Some n → ⊥) → edge_with s a b d ≡ None
unlevelled s None b d f = refl
unlevelled s (Some n) b d f = absurd (f n refl)

untold_edge : (told : Told) (s : SwitchId) → has_told told s ≡ false → edge_in told s ≡ None
untold_edge told s e =
    unlevelled s (place_of told s).level (place_of told s).position (place_of told s).pod (λ n is. false≢true (sym e ∙ level_told told s n is))

-- a switch that is not among the placed edge switches is none
pub was_unplaced : (told : Told) (s : SwitchId) (es : List Edge) → map placed_as es ≡ placed_edges told →
    list_any (λ e. same_switch e.switch s) es ≡ false → is_some (edge_at s (place_of told s)) ≡ false
was_unplaced told s es placed out = by (has_told told s) (is_edge told s) refl refl
  where
    by : (b c : Bool) → has_told told s ≡ b → is_edge told s ≡ c → c ≡ false
    by b false e k = refl
    by false true e k = absurd (false≢true (sym (ap is_some (untold_edge told s e)) ∙ k))
    by true true e k =
        let there = among_filtered (is_edge told) s (switches told) (id_among s (switches told) e) k in
        let at = among_map (λ (p : PlacedEdge). p.switch) s (placed_edges told) (subst (IsAmong s) (placed_in told (switches told)) there) in
        let own = among_map placed_as at.0 es (subst (IsAmong at.0) (sym placed) at.1) in
        let is : own.0.switch ≡ s = ap (λ (p : PlacedEdge). p.switch) own.2 ∙ at.2 in
        absurd (false≢true (sym out ∙ any_among (λ (y : Edge). same_switch y.switch s) own.0 es own.1
        (subst (λ z. same_switch z s ≡ true) (sym is) (switch_itself s))))

-- ---- a link
-- the links of a switch that is at neither end
module _ (told : Told) (s u : SwitchId) (usable : Bool) (t : SwitchId) (own : is_at (id_cmp s) t ≡ false) (other : is_at (id_cmp u) t ≡ false) where
  not_here : (x : SwitchId) → is_at (id_cmp x) t ≡ false → x ≡ t → ⊥
  not_here x apart is = false≢true (sym apart ∙ subst (λ z. is_at (id_cmp x) z ≡ true) is (id_itself x))

  another : (x y : SwitchId) → (IsPair x y s u → ⊥) → is_eq (link_cmp (x, y) (s, u)) ≡ false
  another x y apart = by (is_eq (link_cmp (x, y) (s, u))) refl
    where
      by : (b : Bool) → is_eq (link_cmp (x, y) (s, u)) ≡ b → b ≡ false
      by false e = refl
      by true e = absurd (apart (link_exact (x, y) (s, u) ((Equal-is (link_cmp (x, y) (s, u))).0 e)))

  beside_same : alive_neighbours (with_link told s u usable) t ≡ alive_neighbours told t
  beside_same = λ i.
      filter (λ y. usable_after told s u usable t y false (another t y (λ p. not_here s own (sym (ap (λ (l : SwitchId × SwitchId). l.0) p)))) refl i
      && usable_after told s u usable y t false (another y t (λ p. not_here u other (sym (ap (λ (l : SwitchId × SwitchId). l.1) p)))) refl i)
      (other_neighbours told s u usable t (not_here s own) i)

pub word_of_link : (told : Told) (s u : SwitchId) (usable : Bool) → IsLinkWord s u told (with_link told s u usable)
word_of_link told s u usable = record {
  word = record {
    place = λ t other. refl;
    near = λ t other.
        other_neighbours told s u usable t (λ is. false≢true (sym other ∙ subst (λ z. is_at (id_cmp s) z ≡ true) is (id_itself s)));
    others = λ t other.
        other_heard told (with_link told s u usable) s t (switches_linked told s u usable) (still_linked told s u usable t) other;
    itself = ap (list_any (is_at (id_cmp s))) (switches_linked told s u usable) ∙ in_itself s (switches told);
  };
  place = λ t. refl;
  edges = edges_linked told s u usable;
  near = own_neighbours told s u usable;
  beside = beside_same told s u usable;
}

-- who told of a link is heard of once more
pub heard_linked : (told after : Told) (s u : SwitchId) → IsLinkWord s u told after → (hearers more : Hearers) → AreHeard told hearers →
    ((t : SwitchId) → near_of more t ≡ with_neighbour hearers u s t) → AreHeard after more
heard_linked told after s u w hearers more h put t x near = by (is_at (id_cmp s) t) refl
  where
    -- a list is as long as it was, or longer
    kept : is_in (near_of hearers x) t ≡ true → is_in (near_of more x) t ≡ true
    kept was = ap (λ l. is_in l t) (put x) ∙ on (is_at (id_cmp u) x) refl
      where
        on : (b : Bool) → is_at (id_cmp u) x ≡ b → is_in (cond b (insert_key id_cmp (near_of hearers u) s) (near_of hearers x)) t ≡ true
        on true e = in_more s t (near_of hearers u) (subst (λ z. is_in (near_of hearers z) t ≡ true) (sym (id_is u x e)) was)
        on false e = was

    own : s ≡ t → (u ≡ x) ⊎ IsAmong x (neighbours told s) → is_in (near_of more x) t ≡ true
    own is (inl now) =
        ap (λ l. is_in l t) (put x ∙ ap (λ b. cond b (insert_key id_cmp (near_of hearers u) s) (near_of hearers x)) (subst (λ z. is_at (id_cmp u) z ≡ true) now (id_itself u)))
        ∙ subst (λ z. is_in (insert_key id_cmp (near_of hearers u) s) z ≡ true) is (in_itself s (near_of hearers u))
    own is (inr was) = kept (h t x (subst (λ z. is_in (neighbours told z) x ≡ true) is (among_told x (neighbours told s) was)))

    by : (b : Bool) → is_at (id_cmp s) t ≡ b → is_in (near_of more x) t ≡ true
    by true e =
        let is : s ≡ t = id_is s t e in
        own is (among_insert id_cmp u x (neighbours told s)
        (subst (IsAmong x) w.near (id_among x (neighbours after s) (subst (λ z. is_in (neighbours after z) x ≡ true) (sym is) near))))
    by false e = kept (h t x (ap (λ us. is_in us x) (sym (w.word.near t e)) ∙ near))
