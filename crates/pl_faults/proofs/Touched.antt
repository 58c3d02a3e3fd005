-- After a word a list is what it was where nothing turned that it reads.
use Rattle.std.proofs.Common.{◌≡◌, ℕ, Bool, true, false, cond, List, [], ◌∷◌, ◌++◌, map, Some, None, refl, sym, ap, ◌∙◌, subst, inl, inr}
use Rattle.std.specs.Prelude.{fold, is_some}
use Rattle.std.specs.List.{filter, flat_map}
use Rattle.std.specs.BTreeMap.{is_at}
use Rattle.std.proofs.lemmas.Bool.{false_from_ne_true, false≢true, or_cases}
use Rattle.pl_frame.specs.declared.address.SwitchId.{SwitchId}
use Rattle.pl_node.specs.AvoidLists.{avoid_list, avoided_at, avoided_cmp, is_above, is_cut, is_level_above}
use Rattle.pl_node.specs.ManagerViews.{PlacedEdge, Told, edge_at, has_level, id_cmp, in_order, neighbours, place_of, placed_edges, value_at}
use Rattle.pl_node.proofs.Exports.{IsAmong}
use Rattle.pl_manager_rule.proofs.Exports.{among_placed, id_is, IsPlacedAs, placed_among}
use Rattle.pl_reports.specs.Kept.{has_told}
use Rattle.pl_faults.specs.declared.edges.Edge.{Edge}
use Rattle.pl_faults.specs.declared.leading.Leading.{Leading}
use Rattle.pl_faults.specs.declared.tables.Tables.{Tables}
use Rattle.pl_faults.specs.Kept.{AreListsOf, AreListsRenewed, AreTablesOf, AreTablesRenewed, IsKeptUp, IsListRenewed, IsPlaceWord, IsWordOf, IsWordWithin, ListsBySwitch, handed_by, list_of}
use Rattle.pl_faults.specs.Listed.{AreHeard, Hearers, is_in, with_below}
use Rattle.pl_faults.specs.Making.{Avoided, placed_as}
use Rattle.pl_faults.specs.Missed.{AreMissed, IsLeading, IsTurned, avoided_of, is_some_edge, is_upper, missed_at, missed_by}
use Rattle.pl_faults.specs.Rows.{AreLevelRows, RowOfSwitch, Rows, leads_by, leads_down, row_at_level, row_of}
use Rattle.pl_faults.proofs.Anew.{all_renewed, among_told, at_turned, none_renewed, one_more_renewed}
use Rattle.pl_faults.proofs.Gathered.{below_from, in_below, in_below_before}
use Rattle.pl_faults.proofs.Made.{avoided_kept}
use Rattle.pl_faults.proofs.Reaching.{below_told}

-- ---- a word of one switch
module _ (s : SwitchId) (told after : Told) (w : IsWordOf s told after) where
  pub stays_heard : (t : SwitchId) → has_told told t ≡ true → has_told after t ≡ true
  stays_heard t h = by (is_at (id_cmp s) t) refl
    where
      by : (b : Bool) → is_at (id_cmp s) t ≡ b → has_told after t ≡ true
      by true e = subst (λ z. has_told after z ≡ true) (id_is s t e) w.itself
      by false e = w.others t e ∙ h

  -- ---- no edge switch is placed, nor was
  no_edges : (edges : List Edge) → is_some_edge edges ≡ false → edges ≡ []
  no_edges [] e = refl
  no_edges (x ∷ xs) e = absurd (false≢true (sym e))

  none_placed : placed_edges told ≡ [] → is_some (edge_at s (place_of after s)) ≡ false → placed_edges after ≡ []
  none_placed none unplaced = by (placed_edges after) (λ e h. h)
    where
      by : (es : List PlacedEdge) → ((e : PlacedEdge) → IsAmong e es → IsAmong e (placed_edges after)) → es ≡ []
      by [] f = refl
      by (e ∷ es) f = absurd (at e (among_placed after e (f e (inl refl))) (is_at (id_cmp s) e.switch) refl)
        where
          at : (x : PlacedEdge) → IsPlacedAs x.switch (place_of after x.switch) x → (b : Bool) → is_at (id_cmp s) x.switch ≡ b → ⊥
          at x is true own =
              let here : is_some (edge_at x.switch (place_of after x.switch)) ≡ true = ap (λ p. is_some (edge_at x.switch p)) is.place in
              false≢true (sym unplaced ∙ subst (λ z. is_some (edge_at z (place_of after z)) ≡ true) (sym (id_is s x.switch own)) here)
          at x is false other = subst (IsAmong x) none (placed_among told x (sym (w.place x.switch other) ∙ is.place))

nothing_cut : (told : Told) (t : SwitchId) (us : List SwitchId) → placed_edges told ≡ [] → flat_map (avoided_at told t) us ≡ []
nothing_cut told t [] none = refl
nothing_cut told t (u ∷ us) none =
    let rest = nothing_cut told t us none in
    λ j. map (λ (e : PlacedEdge). let x : Avoided = (u, e.pod, e.position) in x) (filter (is_cut told t u) (none j)) ++ rest j

nothing_avoided : (told : Told) (t : SwitchId) → placed_edges told ≡ [] → avoid_list told t ≡ []
unfolding avoid_list
nothing_avoided told t none = ap (in_order avoided_cmp) (nothing_cut told t (filter (is_above told t) (neighbours told t)) none)

nothing_missed : (told : Told) (u : SwitchId) → missed_at told [] u ≡ []
nothing_missed told u = by (is_upper (place_of told u).level)
  where
    by : (b : Bool) → cond b (missed_by told [] u) [] ≡ []
    by true = refl
    by false = refl

no_row : (told : Told) (level : ℕ) (f : RowOfSwitch) (u : SwitchId) → row_at_level told level f [] u ≡ []
no_row told level f u = by (has_level told u level)
  where
    by : (b : Bool) → cond b (row_of f [] u) [] ≡ []
    by true = refl
    by false = refl

no_rows : (told after : Told) (level : ℕ) (f g : RowOfSwitch) (edges : List Edge) (rows : Rows) → edges ≡ [] → AreLevelRows told level edges f rows →
    AreLevelRows after level edges g rows
no_rows told after level f g edges rows none h = record {
  all = λ u.
      h.all u ∙ ap (λ es. row_at_level told level f es u) none ∙ no_row told level f u ∙ sym (no_row after level g u)
      ∙ ap (λ es. row_at_level after level g es u) (sym none);
}

pub still_all_heard : (told after : Told) {s : SwitchId} (w : IsPlaceWord s told after) (hearers : Hearers) → AreHeard told hearers → AreHeard after hearers
still_all_heard told after w hearers h t u near = h t u (ap (λ us. is_in us u) (sym (w.near t)) ∙ near)

-- the parts of what is kept, over tables that were made anew
pub kept_up : (old new : Tables) (known : Leading) → new.reports ≡ old.reports → new.leading ≡ known → IsLeading old.reports known →
    AreListsOf old.reports new.lists.entries new.before.entries → ((t : SwitchId) → handed_by new t ≡ handed_by old t) → IsKeptUp old new
kept_up old new known reports leading led listed handed = record {
  told = reports;
  kept = record {
    leading = subst (λ (t : Told). IsLeading t new.leading) (sym reports) (subst (IsLeading old.reports) (sym leading) led);
    listed = subst (λ (t : Told). AreListsOf t new.lists.entries new.before.entries) (sym reports) listed;
  };
  handed = handed;
}

pub unplaced_kept : (s : SwitchId) (told : Told) (old new : Tables) (word : IsPlaceWord s told old.reports) → AreTablesOf told old →
    is_some_edge old.leading.edges.items ≡ false → is_some (edge_at s (place_of old.reports s)) ≡ false → IsListRenewed s [] old new → IsKeptUp old new
unplaced_kept s told old new word kept empty unplaced renewed =
    kept_up old new known renewed.told renewed.leading
    (record {
      placed = ap (map placed_as) is_empty ∙ sym none;
      reach = record {
        by_link = no_rows told after 1 (leads_down told) (leads_down after) edges known.reach.down.entries is_empty kept.leading.reach.by_link;
        by_core = no_rows told after 2 (leads_by told 1 (leads_down told)) (leads_by after 1 (leads_down after)) edges known.reach.core.entries is_empty
            kept.leading.reach.by_core;
        by_two = no_rows told after 1 (leads_by told 2 (leads_by told 1 (leads_down told))) (leads_by after 2 (leads_by after 1 (leads_down after))) edges
            known.reach.up.entries is_empty kept.leading.reach.by_two;
      };
      missed_are = missed_none;
      heard = still_all_heard told after word known.hearers.entries kept.leading.heard;
    })
    (record {
      current = λ t. r.now t ∙ by t (is_at (id_cmp t) s) refl;
      heard = λ t e. elim (or_cases (is_some (value_at id_cmp before t)) (is_at (id_cmp t) s) (r.noted t e)) [
        | inl was ↦ stays_heard s told after w t (kept.listed.heard t was)
        | inr own ↦ subst (λ z. has_told after z ≡ true) (sym (id_is t s own)) w.itself
      ];
    })
    r.handed_stays
  where
    after : Told
    after = old.reports

    known : Leading
    known = old.leading

    lists : ListsBySwitch
    lists = old.lists.entries

    before : ListsBySwitch
    before = old.before.entries

    w : IsWordOf s told after
    w = word.word

    edges : List Edge
    edges = known.edges.items

    is_empty : edges ≡ []
    is_empty = no_edges s told after w edges empty

    missed_none : AreMissed after edges known.misses.entries
    missed_none u =
        kept.leading.missed_are u ∙ ap (λ es. missed_at told es u) is_empty ∙ nothing_missed told u ∙ sym (nothing_missed after u)
        ∙ ap (λ es. missed_at after es u) (sym is_empty)

    none_told : placed_edges told ≡ []
    none_told = sym kept.leading.placed ∙ ap (map placed_as) is_empty

    none : placed_edges after ≡ []
    none = none_placed s told after w none_told unplaced

    r : AreListsRenewed after (λ t. is_at (id_cmp t) s) lists before new.lists.entries new.before.entries
    r =
        one_more_renewed after lists before (λ t. false) (λ t. is_at (id_cmp t) s) s [] lists before new.lists.entries new.before.entries
        (sym (nothing_avoided after s none)) (λ t. refl) (none_renewed after lists before) renewed.renewed

    by : (t : SwitchId) (b : Bool) → is_at (id_cmp t) s ≡ b → cond b (Some (avoid_list after t)) (value_at id_cmp lists t) ≡ list_of after t
    by t true own =
        ap (λ b. cond b (Some (avoid_list after t)) None)
        (sym (subst (λ z. has_told after z ≡ true) (sym (id_is t s own)) w.itself))
    by t false other =
        let apart : is_at (id_cmp s) t ≡ false = at_turned s t ∙ other in
        kept.listed.current t
        ∙ (λ i. cond (sym (w.others t apart) i) (Some ((nothing_avoided told t none_told ∙ sym (nothing_avoided after t none)) i)) None)

-- ---- a word after which those lists are made anew that read what turned
module _ (s : SwitchId) (told after : Told) (w : IsWordOf s told after) (was known : Leading) (turned first : List SwitchId)
    (lead : IsLeading told was) (led : IsTurned after was known turned) (within : IsWordWithin first neighbours told after)
    (own : is_in first s ≡ true) (first_told : (t : SwitchId) → is_in first t ≡ true → has_told after t ≡ true) where
  module _ (t : SwitchId) (away : is_in first t ≡ false) where
    above_same : (x : SwitchId) → IsAmong x (neighbours after t) → is_above after t x ≡ is_above told t x
    above_same x near = λ j.
        is_level_above (within.place t away j).level (within.beside t x away (among_told x (neighbours after t) near) j).level

    avoided_same : (x : SwitchId) → IsAmong x (neighbours after t) → is_in turned x ≡ false → is_above after t x ≡ true →
        avoided_at after t x ≡ avoided_at told t x
    avoided_same x near out above =
        avoided_kept after t x known led.leading above
        ∙ (λ j. avoided_of (within.place t away j) t x (led.same x out j))
        ∙ sym (avoided_kept told t x was lead (sym (above_same x near) ∙ above))

    all_same : (xs : List SwitchId) → ((x : SwitchId) → IsAmong x xs → IsAmong x (neighbours after t)) →
        ((x : SwitchId) → IsAmong x xs → is_above after t x ≡ true → is_in turned x ≡ false) →
        flat_map (avoided_at after t) (filter (is_above after t) xs) ≡ flat_map (avoided_at told t) (filter (is_above told t) xs)
    all_same [] near out = refl
    all_same (x ∷ xs) near out =
        by (all_same xs (λ z h. near z (inr h)) (λ z h. out z (inr h))) (is_above after t x) refl
        ∙ ap (λ b. flat_map (avoided_at told t) (cond b (x ∷ filter (is_above told t) xs) (filter (is_above told t) xs))) (above_same x (near x (inl refl)))
      where
        by : flat_map (avoided_at after t) (filter (is_above after t) xs) ≡ flat_map (avoided_at told t) (filter (is_above told t) xs) →
            (b : Bool) → is_above after t x ≡ b →
            flat_map (avoided_at after t) (cond b (x ∷ filter (is_above after t) xs) (filter (is_above after t) xs))
            ≡ flat_map (avoided_at told t) (cond b (x ∷ filter (is_above told t) xs) (filter (is_above told t) xs))
        by rest true above = λ j. avoided_same x (near x (inl refl)) (out x (inl refl) above) above j ++ rest j
        by rest false above = rest

    same_list : ((x : SwitchId) → IsAmong x (neighbours after t) → is_above after t x ≡ true → is_in turned x ≡ false) →
        avoid_list after t ≡ avoid_list told t
    unfolding avoid_list
    same_list out =
        ap (in_order avoided_cmp)
        (all_same (neighbours after t) (λ x h. h) out
        ∙ ap (λ us. flat_map (avoided_at told t) (filter (is_above told t) us)) (within.near t away))

  abbrev touched : List SwitchId
  touched = fold (with_below after known.hearers.entries) first turned

  untouched : (t : SwitchId) → is_in touched t ≡ false → list_of told t ≡ list_of after t
  untouched t out =
      let away : is_in first t ≡ false =
      false_from_ne_true (is_in first t) (λ at. false≢true (sym out ∙ in_below_before after t known.hearers.entries turned first at)) in
      let other : is_at (id_cmp s) t ≡ false =
      false_from_ne_true (is_at (id_cmp s) t) (λ at. false≢true (sym away ∙ subst (λ z. is_in first z ≡ true) (id_is s t at) own)) in
      let far : (x : SwitchId) → IsAmong x (neighbours after t) → is_above after t x ≡ true → is_in turned x ≡ false =
      λ x near above.
      false_from_ne_true (is_in turned x)
      (λ there. false≢true (sym out ∙ in_below after t known.hearers.entries x turned first there
      (led.leading.heard t x (among_told x (neighbours after t) near)) above)) in
      λ j. cond (sym (w.others t other) j) (Some (sym (same_list t away far) j)) None

  touched_told : (t : SwitchId) → is_in touched t ≡ true → has_told after t ≡ true
  touched_told t h = elim (below_from after t known.hearers.entries turned first h) [
    | inl there ↦ first_told t there
    | inr low ↦ below_told after t low.0 low.1
  ]

  touched_lists : (lists before l2 b2 : ListsBySwitch) → AreListsOf told lists before → AreListsRenewed after (is_in touched) lists before l2 b2 →
      AreListsOf after l2 b2
  touched_lists lists before l2 b2 listed on =
      all_renewed told after lists before l2 b2 (is_in touched) listed (stays_heard s told after w) touched_told untouched on

-- the tables, where new rows and what is missed by them were put in first
abbrev pub with_leading : Tables → Leading → Tables
with_leading tables known = record {
  alloc = tables.alloc;
  reports = tables.reports;
  leading = known;
  lists = tables.lists;
  before = tables.before;
}

pub near_kept : (s : SwitchId) (told : Told) (old new : Tables) (w : IsWordOf s told old.reports) (known : Leading) (turned first : List SwitchId)
    (led : IsTurned old.reports old.leading known turned) (within : IsWordWithin first neighbours told old.reports) (own : is_in first s ≡ true)
    (first_told : (t : SwitchId) → is_in first t ≡ true → has_told old.reports t ≡ true) (asked : List SwitchId) → AreTablesOf told old →
    asked ≡ fold (with_below old.reports known.hearers.entries) first turned →
    AreTablesRenewed (is_in asked) (with_leading old known) new → IsKeptUp old new
near_kept s told old new w known turned first led within own first_told asked kept is r =
    let lists = old.lists.entries in let before = old.before.entries in let l2 = new.lists.entries in let b2 = new.before.entries in
    let list = fold (with_below old.reports known.hearers.entries) first turned in
    let on : AreListsRenewed old.reports (is_in list) lists before l2 b2 =
    subst (λ xs. AreListsRenewed old.reports (is_in xs) lists before l2 b2) is r.renewed in
    kept_up old new known r.told r.leading led.leading
    (touched_lists s told old.reports w old.leading known turned first kept.leading led within own first_told lists before l2 b2 kept.listed on)
    on.handed_stays
