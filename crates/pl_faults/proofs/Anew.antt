-- Lists that are made anew, and what was handed out.
use Rattle.std.proofs.Common.{◌≡◌, ◌||◌, Bool, true, false, cond, List, [], ◌∷◌, map, Option, Some, None, Ordering, Less, Equal, Greater, refl, sym, ap, ◌∙◌, subst, inl, inr}
use Rattle.std.specs.Prelude.{is_some, unwrap_or}
use Rattle.std.specs.List.{filter, flat_map, list_any}
use Rattle.std.specs.Ordering.{is_eq, ordering_reverse}
use Rattle.std.specs.BTreeMap.{is_at}
use Rattle.std.specs.BTreeSet.{insert_key}
use Rattle.std.proofs.lemmas.Bool.{or_cases, or_left, or_right}
use Rattle.pl_frame.specs.declared.address.SwitchId.{SwitchId}
use Rattle.pl_layouts.specs.declared.place.Place.{Place}
use Rattle.pl_layouts.specs.Equality.{same_switch}
use Rattle.pl_node.specs.AvoidLists.{avoid_list, avoided_at, avoided_cmp, is_above}
use Rattle.pl_node.specs.ManagerViews.{Told, id_cmp, in_order, neighbours, switches, tellers, value_at}
use Rattle.pl_node.proofs.Exports.{among_in_order, among_map, among_mapped, among_ordered, among_right, any_among, id_total, IsAmong}
use Rattle.pl_manager_rule.specs.ManagerRule.{with_link, with_place}
use Rattle.pl_manager_rule.proofs.Exports.{id_among, id_exact, id_is, id_itself}
use Rattle.pl_reports.specs.Kept.{has_told}
use Rattle.pl_reports.proofs.Exports.{key_of_near, switches_linked, switches_placed}
use Rattle.pl_faults.specs.Kept.{AreListsOf, AreListsRenewed, AreTablesRenewed, IsListRenewed, IsRenewed, ListsBySwitch, handed, handed_in, list_of, with_note}
use Rattle.pl_faults.specs.Making.{Avoided}
use Rattle.pl_faults.specs.declared.tables.Tables.{Tables}
use Rattle.pl_faults.proofs.Filling.{among_put_in}

-- ---- who told something

pub at_turned : (s t : SwitchId) → is_at (id_cmp s) t ≡ is_at (id_cmp t) s
at_turned s t = ap is_eq (id_total.antisymm s t) ∙ same (id_cmp t s)
  where
    same : (o : Ordering) → is_eq (ordering_reverse o) ≡ is_eq o
    same Less = refl
    same Equal = refl
    same Greater = refl

pub among_told : (s : SwitchId) (xs : List SwitchId) → IsAmong s xs → list_any (is_at (id_cmp s)) xs ≡ true
among_told s xs h = any_among (is_at (id_cmp s)) s xs h (id_itself s)

still : (told : Told) (s t : SwitchId) (after : List SwitchId) → after ≡ insert_key id_cmp (switches told) s → has_told told t ≡ true →
    list_any (is_at (id_cmp t)) after ≡ true
still told s t after is h =
    among_told t after (subst (IsAmong t) (sym is) (among_put_in id_cmp id_total id_exact t s (switches told) (inr (id_among t (switches told) h))))

pub still_placed : (told : Told) (s : SwitchId) (place : Place) (t : SwitchId) → has_told told t ≡ true → has_told (with_place told s place) t ≡ true
still_placed told s place t h = still told s t (switches (with_place told s place)) (switches_placed told s place) h

pub still_linked : (told : Told) (s u : SwitchId) (usable : Bool) (t : SwitchId) → has_told told t ≡ true → has_told (with_link told s u usable) t ≡ true
still_linked told s u usable t h = still told s t (switches (with_link told s u usable)) (switches_linked told s u usable) h

pub near_key_first : (links : List ((SwitchId × SwitchId) × Bool)) (s u : SwitchId) → IsAmong (s, u) (map (λ l. l.0) links) → IsAmong s (map (λ l. l.0.0) links)
near_key_first links s u h =
    let at = among_map (λ (l : (SwitchId × SwitchId) × Bool). l.0) (s, u) links h in
    subst (λ z. IsAmong z (map (λ (l : (SwitchId × SwitchId) × Bool). l.0.0) links)) (ap (λ (k : SwitchId × SwitchId). k.0) at.2)
    (among_mapped (λ (l : (SwitchId × SwitchId) × Bool). l.0.0) at.0 links at.1)

-- one that told nothing has no neighbours, and avoids nothing
pub no_neighbours : (told : Told) (s : SwitchId) → has_told told s ≡ false → neighbours told s ≡ []
no_neighbours told s none = by (neighbours told s) (λ u h. h)
  where
    by : (us : List SwitchId) → ((u : SwitchId) → IsAmong u us → IsAmong u (neighbours told s)) → us ≡ []
    by [] f = refl
    by (u ∷ us) f =
        let key = near_key_first told.links s u (key_of_near told.links s u (among_ordered id_cmp u (map (λ l. l.0.1) (filter (λ l. same_switch l.0.0 s) told.links)) (f u (inl refl)))) in
        let told_so : has_told told s ≡ true =
        among_told s (switches told) (among_in_order id_cmp id_exact s (tellers told) (among_right s (map (λ p. p.0) told.places) (map (λ l. l.0.0) told.links) key)) in
        absurd (cc)

pub avoids_nothing : (told : Told) (s : SwitchId) → has_told told s ≡ false → avoid_list told s ≡ []
unfolding avoid_list
avoids_nothing told s none = ap (λ us. in_order avoided_cmp (flat_map (avoided_at told s) (filter (is_above told s) us))) (no_neighbours told s none)

pub avoid_of : (told : Told) (s : SwitchId) → unwrap_or (list_of told s) [] ≡ avoid_list told s
avoid_of told s = by (has_told told s) refl
  where
    by : (b : Bool) → has_told told s ≡ b → unwrap_or (cond b (Some (avoid_list told s)) None) [] ≡ avoid_list told s
    by true e = refl
    by false e = sym (avoids_nothing told s e)

pub handed_of : (told : Told) (lists before : ListsBySwitch) → AreListsOf told lists before → (s : SwitchId) →
    handed_in lists before s ≡ handed (record { told = told; before = before }) s
handed_of told lists before h s =
    ap (λ (list : List Avoided). unwrap_or (value_at id_cmp before s) list) (ap (λ (o : Option (List Avoided)). unwrap_or o []) (h.current s) ∙ avoid_of told s)

-- ---- one more list
module _ (told : Told) (lists before : ListsBySwitch) where
  pub none_renewed : AreListsRenewed told (λ t. false) lists before lists before
  none_renewed = record { now = λ t. refl; handed_stays = λ t. refl; noted = λ t h. or_left (is_some (value_at id_cmp before t)) false h }

  module _ (some more : SwitchId → Bool) (s : SwitchId) (list : List Avoided) (l1 b1 l2 b2 : ListsBySwitch) (is : list ≡ avoid_list told s)
      (grows : (t : SwitchId) → more t ≡ (some t || is_at (id_cmp t) s)) (h : AreListsRenewed told some lists before l1 b1) (r : IsRenewed s list l1 b1 l2 b2) where
    -- the switch itself, or another one
    more_now : (t : SwitchId) (own : Bool) → is_at (id_cmp t) s ≡ own →
        value_at id_cmp l2 t ≡ cond (some t || own) (Some (avoid_list told t)) (value_at id_cmp lists t)
    more_now t true e =
        let same : t ≡ s = id_is t s e in
        r.now t ∙ ap (λ b. cond b (Some list) (value_at id_cmp l1 t)) (at_turned s t ∙ e)
        ∙ ap Some (is ∙ ap (avoid_list told) (sym same))
        ∙ ap (λ b. cond b (Some (avoid_list told t)) (value_at id_cmp lists t)) (sym (or_right (some t) true refl))
    more_now t false e =
        r.now t ∙ ap (λ b. cond b (Some list) (value_at id_cmp l1 t)) (at_turned s t ∙ e)
        ∙ h.now t ∙ by (some t)
      where
        by : (b : Bool) → cond b (Some (avoid_list told t)) (value_at id_cmp lists t) ≡ cond (b || false) (Some (avoid_list told t)) (value_at id_cmp lists t)
        by true = refl
        by false = refl

    more_handed : (t : SwitchId) (own : Bool) (o : Option (List Avoided)) → is_at (id_cmp t) s ≡ own → value_at id_cmp b1 t ≡ o →
        unwrap_or (with_note o own (unwrap_or (value_at id_cmp l1 s) [])) (unwrap_or (cond own (Some list) (value_at id_cmp l1 t)) [])
        ≡ unwrap_or o (unwrap_or (value_at id_cmp l1 t) [])
    more_handed t true None e k = ap (λ z. unwrap_or (value_at id_cmp l1 z) []) (sym (id_is t s e))
    more_handed t true (Some noted) e k = refl
    more_handed t false None e k = refl
    more_handed t false (Some noted) e k = refl

    two_equal : (t : SwitchId) →
        handed_in l2 b2 t ≡ unwrap_or (with_note (value_at id_cmp b1 t) (is_at (id_cmp t) s) (unwrap_or (value_at id_cmp l1 s) []))
        (unwrap_or (cond (is_at (id_cmp t) s) (Some list) (value_at id_cmp l1 t)) [])
    two_equal t = λ i.
        unwrap_or ((r.noted t ∙ ap (λ own. with_note (value_at id_cmp b1 t) own (unwrap_or (value_at id_cmp l1 s) [])) (at_turned s t)) i)
        (unwrap_or ((r.now t ∙ ap (λ b. cond b (Some list) (value_at id_cmp l1 t)) (at_turned s t)) i) [])

    more_noted : (t : SwitchId) (own : Bool) (o : Option (List Avoided)) → (is_some o ≡ true → (is_some (value_at id_cmp before t) || some t) ≡ true) →
        is_some (with_note o own (unwrap_or (value_at id_cmp l1 s) [])) ≡ true → (is_some (value_at id_cmp before t) || (some t || own)) ≡ true
    more_noted t own (Some noted) f e = elim (or_cases (is_some (value_at id_cmp before t)) (some t) (f refl)) [
      | inl was ↦ or_left (is_some (value_at id_cmp before t)) (some t || own) was
      | inr also ↦ or_right (is_some (value_at id_cmp before t)) (some t || own) (or_left (some t) own also)
    ]
    more_noted t true None f e = or_right (is_some (value_at id_cmp before t)) (some t || true) (or_right (some t) true refl)
    more_noted t false None f e = let no_way : false ≡ true = e in absurd (cc)

    pub one_more_renewed : AreListsRenewed told more lists before l2 b2
    one_more_renewed = record {
      now = λ t. more_now t (is_at (id_cmp t) s) refl ∙ ap (λ b. cond b (Some (avoid_list told t)) (value_at id_cmp lists t)) (sym (grows t));
      handed_stays = λ t. two_equal t ∙ more_handed t (is_at (id_cmp t) s) (value_at id_cmp b1 t) refl refl ∙ h.handed_stays t;
      noted = λ t e.
          ap (λ b. is_some (value_at id_cmp before t) || b) (grows t)
          ∙ more_noted t (is_at (id_cmp t) s) (value_at id_cmp b1 t) (h.noted t)
          (ap is_some (ap (λ own. with_note (value_at id_cmp b1 t) own (unwrap_or (value_at id_cmp l1 s) [])) (at_turned t s) ∙ sym (r.noted t)) ∙ e);
    }

  -- by the same test in other words
  pub renewed_of : (some more : SwitchId → Bool) (l b : ListsBySwitch) → ((t : SwitchId) → some t ≡ more t) →
      AreListsRenewed told some lists before l b → AreListsRenewed told more lists before l b
  renewed_of some more l b same h = record {
    now = λ t. h.now t ∙ ap (λ x. cond x (Some (avoid_list told t)) (value_at id_cmp lists t)) (same t);
    handed_stays = h.handed_stays;
    noted = λ t e. ap (λ x. is_some (value_at id_cmp before t) || x) (sym (same t)) ∙ h.noted t e;
  }

-- ---- all lists
pub all_renewed : (told after : Told) (lists before l2 b2 : ListsBySwitch) (some : SwitchId → Bool) → AreListsOf told lists before →
    ((t : SwitchId) → has_told told t ≡ true → has_told after t ≡ true) → ((t : SwitchId) → some t ≡ true → has_told after t ≡ true) →
    ((t : SwitchId) → some t ≡ false → list_of told t ≡ list_of after t) → AreListsRenewed after some lists before l2 b2 → AreListsOf after l2 b2
all_renewed told after lists before l2 b2 some h stays told_now same r = record {
  current = λ t. r.now t ∙ by t (some t) refl;
  heard = λ t e. elim (or_cases (is_some (value_at id_cmp before t)) (some t) (r.noted t e)) [ inl was ↦ stays t (h.heard t was) | inr now ↦ told_now t now ];
}
  where
    by : (t : SwitchId) (b : Bool) → some t ≡ b → cond b (Some (avoid_list after t)) (value_at id_cmp lists t) ≡ list_of after t
    by t true e = ap (λ x. cond x (Some (avoid_list after t)) None) (sym (told_now t e))
    by t false e = h.current t ∙ same t e

-- ---- the lists of tables
module _ (old : Tables) where
  pub no_table_renewed : AreTablesRenewed (λ t. false) old old
  no_table_renewed = record { told = refl; leading = refl; renewed = none_renewed old.reports old.lists.entries old.before.entries }

  pub one_table_renewed : (some more : SwitchId → Bool) (s : SwitchId) (mid new : Tables) → ((t : SwitchId) → more t ≡ (some t || is_at (id_cmp t) s)) →
      AreTablesRenewed some old mid → IsListRenewed s (avoid_list mid.reports s) mid new → AreTablesRenewed more old new
  one_table_renewed some more s mid new grows h r = record {
    told = r.told ∙ h.told;
    leading = r.leading ∙ h.leading;
    renewed =
        one_more_renewed old.reports old.lists.entries old.before.entries some more s (avoid_list mid.reports s) mid.lists.entries mid.before.entries
        new.lists.entries new.before.entries (ap (λ (t : Told). avoid_list t s) h.told) grows h.renewed r.renewed;
  }

  pub tables_renewed_of : (some more : SwitchId → Bool) (new : Tables) → ((t : SwitchId) → some t ≡ more t) →
      AreTablesRenewed some old new → AreTablesRenewed more old new
  tables_renewed_of some more new same h = record {
    told = h.told;
    leading = h.leading;
    renewed = renewed_of old.reports old.lists.entries old.before.entries some more new.lists.entries new.before.entries same h.renewed;
  }
