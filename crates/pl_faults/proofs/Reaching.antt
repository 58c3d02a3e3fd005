-- Rows of values tell to which placed edge switches a switch leads on.
use Rattle.std.proofs.Common.{◌≡◌, ℕ, ◌<◌, ◌+◌, ◌&&◌, ◌||◌, zero, suc, Bool, true, false, cond, List, [], ◌∷◌, map, length, take, get_or, Option, Some, None, refl, sym, ap, ◌∙◌, subst, arith}
use Rattle.std.specs.Prelude.{unwrap_or}
use Rattle.std.specs.List.{list_any}
use Rattle.std.specs.BTreeMap.{is_at}
use Rattle.std.specs.BTreeSet.{insert_key}
use Rattle.std.proofs.lemmas.Bool.{false≢true}
use Rattle.std.proofs.lemmas.List.Folds.{list_any_more}
use Rattle.pl_lemmas.proofs.Exports.{false_before, or_false}
use Rattle.pl_bits.proofs.Exports.{either_of}
use Rattle.pl_frame.specs.declared.address.SwitchId.{SwitchId}
use Rattle.pl_layouts.specs.declared.place.Place.{Place}
use Rattle.pl_layouts.specs.Placement.{is_known, nowhere}
use Rattle.pl_node.specs.AvoidLists.{core_leads_to, is_above, is_level_above, leads_to}
use Rattle.pl_node.specs.ManagerViews.{Told, alive_at_level, alive_neighbours, has_level, has_pod, id_cmp, is_alive, place_of, switches, tellers, value_at}
use Rattle.pl_node.proofs.Exports.{among_in_order, among_left}
use Rattle.pl_manager_rule.proofs.Exports.{found_key, id_exact, id_is}
use Rattle.pl_reports.specs.Kept.{has_told}
use Rattle.pl_faults.specs.declared.edges.Edge.{Edge}
use Rattle.pl_faults.specs.declared.reach.Reach.{Reach}
use Rattle.pl_faults.specs.Listed.{is_in}
use Rattle.pl_faults.specs.Rows.{AreLevelRows, AreRowsRenewed, IsReach, RowOfSwitch, Rows, leads_at, leads_by, leads_down, row_at_level, row_in, row_of, row_or_none, value_in, value_of, with_row}
use Rattle.pl_faults.proofs.Anew.{among_told, at_turned}
use Rattle.pl_faults.proofs.Gathered.{in_itself}
use Rattle.pl_faults.proofs.Made.{any_kept}

-- ---- who has a level told it
pub level_told : (told : Told) (u : SwitchId) (n : ℕ) → (place_of told u).level ≡ Some n → has_told told u ≡ true
level_told told u n e = by (value_at id_cmp told.places u) refl e
  where
    by : (o : Option Place) → value_at id_cmp told.places u ≡ o → (unwrap_or o nowhere).level ≡ Some n → has_told told u ≡ true
    by None found k = let none : None ≡ Some n = k in absurd (cc)
    by (Some place) found k =
        among_told u (switches told) (among_in_order id_cmp id_exact u (tellers told)
        (among_left u (map (λ p. p.0) told.places) (map (λ l. l.0.0) told.links) (found_key id_cmp id_exact told.places u place found)))

has_level_told : (told : Told) (u : SwitchId) (n : ℕ) → has_level told u n ≡ true → has_told told u ≡ true
has_level_told told u n e = by (place_of told u).level refl e
  where
    by : (o : Option ℕ) → (place_of told u).level ≡ o → is_known o n ≡ true → has_told told u ≡ true
    by None is k = let no_way : false ≡ true = k in absurd (cc)
    by (Some m) is k = level_told told u m is

-- so did one that is below another
pub below_told : (told : Told) (s u : SwitchId) → is_above told s u ≡ true → has_told told s ≡ true
below_told told s u e = by (place_of told s).level (place_of told u).level refl e
  where
    by : (a b : Option ℕ) → (place_of told s).level ≡ a → is_level_above a b ≡ true → has_told told s ≡ true
    by (Some low) (Some high) is k = level_told told s low is
    by None (Some high) is k = absurd (false≢true k)
    by (Some low) None is k = absurd (false≢true k)
    by None None is k = absurd (false≢true k)

-- ---- rows, entry by entry

same_row : {X : Type 0} (f g : X → Bool) (xs : List X) → ((x : X) → f x ≡ g x) → map f xs ≡ map g xs
same_row f g [] e = refl
same_row f g (x ∷ xs) e = λ i. e x i ∷ same_row f g xs e i

entry_of_row : (f : Edge → Bool) (es : List Edge) (i : ℕ) (d : Edge) → i < length es → get_or (map f es) i false ≡ f (get_or es i d)
entry_of_row f [] i d h = absurd (omega arith)
entry_of_row f (e ∷ es) zero d h = refl
entry_of_row f (e ∷ es) (suc i) d h = entry_of_row f es i d (omega arith)

module _ (told : Told) (level : ℕ) (edges : List Edge) (f : RowOfSwitch) (rows : Rows) (all : AreLevelRows told level edges f rows) where
  -- the row of one of the level
  pub row_there : (u : SwitchId) → has_level told u level ≡ true → row_in rows u ≡ row_of f edges u
  row_there u h = all.all u ∙ ap (λ b. cond b (row_of f edges u) []) h

  pub value_there : (u : SwitchId) (i : ℕ) (d : Edge) → has_level told u level ≡ true → i < length edges → value_in rows u i ≡ f (get_or edges i d) u
  value_there u i d h within = ap (λ row. value_of row i) (row_there u h) ∙ entry_of_row (λ e. f e u) edges i d within

  -- a neighbour of the level adds its row
  linked_row : (x : SwitchId) (linked : Bool) → has_level told x level ≡ linked → (before : Edge → Bool) →
      with_row linked (row_in rows x) (map before edges) ≡ map (λ e. before e || (linked && f e x)) edges
  linked_row x false is before = same_row before (λ e. before e || false) edges (λ e. or_false (before e))
  linked_row x true is before =
      ap (λ row. with_row true row (map before edges)) (row_there x is) ∙ either_of before (λ e. f e x) edges

  abbrev linked_by : Edge → SwitchId → Bool
  linked_by e x = has_level told x level && f e x

  pub row_more : (xs : List SwitchId) (i : ℕ) (d : SwitchId) → i < length xs → (row after : List Bool) →
      row ≡ map (λ e. list_any (linked_by e) (take i xs)) edges →
      after ≡ with_row (has_level told (get_or xs i d) level) (row_in rows (get_or xs i d)) row →
      after ≡ map (λ e. list_any (linked_by e) (take (i + 1) xs)) edges
  row_more xs i d within row after is put =
      let x = get_or xs i d in let linked = has_level told x level in
      put ∙ ap (with_row linked (row_in rows x)) is
      ∙ linked_row x linked refl (λ e. list_any (linked_by e) (take i xs))
      ∙ same_row (λ e. list_any (linked_by e) (take i xs) || (linked && f e x)) (λ e. list_any (linked_by e) (take (i + 1) xs)) edges
      (λ e. sym (list_any_more (linked_by e) xs i d within))

-- ---- a table, switch by switch
-- what a table has at each switch, once it has something for one more of those that were asked for
pub look_more : {X : Type 0} (fresh look after first : SwitchId → X) (ss : List SwitchId) (i : ℕ) (d : SwitchId) (one : X) → i < length ss →
    ((t : SwitchId) → look t ≡ cond (is_in (take i ss) t) (fresh t) (first t)) → one ≡ fresh (get_or ss i d) →
    ((t : SwitchId) → after t ≡ cond (is_at (id_cmp (get_or ss i d)) t) one (look t)) →
    (t : SwitchId) → after t ≡ cond (is_in (take (i + 1) ss) t) (fresh t) (first t)
look_more {X} fresh look after first ss i d one within was is put t =
    let s = get_or ss i d in
    put t ∙ ap (λ b. cond b one (look t)) (at_turned s t)
    ∙ by (is_in (take i ss) t) (is_at (id_cmp t) s) refl (was t)
    ∙ ap (λ b. cond b (fresh t) (first t)) (sym (list_any_more (is_at (id_cmp t)) ss i d within))
  where
    by : (some own : Bool) → is_at (id_cmp t) (get_or ss i d) ≡ own → look t ≡ cond some (fresh t) (first t) →
        cond own one (look t) ≡ cond (some || own) (fresh t) (first t)
    by true true e k = is ∙ ap fresh (sym (id_is t (get_or ss i d) e))
    by false true e k = is ∙ ap fresh (sym (id_is t (get_or ss i d) e))
    by true false e k = k
    by false false e k = k

-- by what the table itself has
pub look_put : {X : Type 0} (was now : Option X) (none one : X) (b : Bool) → now ≡ cond b (Some one) was → unwrap_or now none ≡ cond b one (unwrap_or was none)
look_put was now none one true is = ap (λ o. unwrap_or o none) is
look_put was now none one false is = ap (λ o. unwrap_or o none) is

pub look_taken : {X : Type 0} (was now : Option X) (none : X) (b : Bool) → now ≡ cond b None was → unwrap_or now none ≡ cond b none (unwrap_or was none)
look_taken was now none true is = ap (λ o. unwrap_or o none) is
look_taken was now none false is = ap (λ o. unwrap_or o none) is

-- a switch that is not put among those that changed has the row that it had
pub put_apart : (s t : SwitchId) (changed : List SwitchId) (rows after : Rows) (one : List Bool) → is_in (insert_key id_cmp changed s) t ≡ false →
    value_at id_cmp after t ≡ cond (is_at (id_cmp s) t) (Some one) (value_at id_cmp rows t) → row_in after t ≡ row_in rows t
put_apart s t changed rows after one out put =
    ap row_or_none put ∙ by (is_at (id_cmp s) t) refl
  where
    by : (b : Bool) → is_at (id_cmp s) t ≡ b → row_or_none (cond b (Some one) (value_at id_cmp rows t)) ≡ row_in rows t
    by false e = refl
    by true e =
        absurd (false≢true (sym out ∙ subst (λ z. is_in (insert_key id_cmp changed s) z ≡ true) (id_is s t e) (in_itself s changed)))

pub none_rows : (fresh : SwitchId → List Bool) (rows : Rows) → AreRowsRenewed fresh [] rows rows []
none_rows fresh rows = record { now = λ t. refl; same = λ t out. refl }

pub rows_more : (fresh : SwitchId → List Bool) (ss : List SwitchId) (i : ℕ) (d : SwitchId) → i < length ss →
    (first rows after : Rows) (changed more : List SwitchId) (one : List Bool) → AreRowsRenewed fresh (take i ss) first rows changed →
    one ≡ fresh (get_or ss i d) →
    ((t : SwitchId) → row_in after t ≡ cond (is_at (id_cmp (get_or ss i d)) t) one (row_in rows t)) →
    ((t : SwitchId) → is_in changed t ≡ true → is_in more t ≡ true) →
    ((t : SwitchId) → is_in more t ≡ false → row_in after t ≡ row_in rows t) → AreRowsRenewed fresh (take (i + 1) ss) first after more
rows_more fresh ss i d within first rows after changed more one h is put stays same = record {
  now = look_more fresh (row_in rows) (row_in after) (row_in first) ss i d one within h.now is put;
  same = λ t out. same t out ∙ h.same t (false_before (is_in changed t) (is_in more t) (stays t) out);
}

pub rows_done : (fresh : SwitchId → List Bool) (some ss : List SwitchId) (first rows : Rows) (changed : List SwitchId) → some ≡ ss →
    AreRowsRenewed fresh some first rows changed → AreRowsRenewed fresh ss first rows changed
rows_done fresh some ss first rows changed is h = subst (λ xs. AreRowsRenewed fresh xs first rows changed) is h

-- all rows are made anew
pub rows_whole : (told : Told) (level : ℕ) (edges : List Edge) (f : RowOfSwitch) (all : List SwitchId) (first rows : Rows) (changed : List SwitchId) →
    all ≡ switches told → first ≡ [] → AreRowsRenewed (row_at_level told level f edges) all first rows changed → AreLevelRows told level edges f rows
rows_whole told level edges f all first rows changed is none h = record {
  all = λ t.
      h.now t ∙ (λ i. cond (is_in (is i) t) (row_at_level told level f edges t) (row_in (none i) t))
      ∙ by t (has_told told t) (has_level told t level) refl refl;
}
  where
    by : (t : SwitchId) (told_so leveled : Bool) → has_told told t ≡ told_so → has_level told t level ≡ leveled →
        cond told_so (cond leveled (row_of f edges t) []) [] ≡ cond leveled (row_of f edges t) []
    by t true leveled e k = refl
    by t false false e k = refl
    by t false true e k = absurd (false≢true (sym e ∙ has_level_told told t level k))

-- those are made anew that may have changed
pub rows_near : (told after : Told) (level : ℕ) (edges : List Edge) (f g : RowOfSwitch) (asked : List SwitchId) (first rows : Rows) (changed : List SwitchId) →
    AreLevelRows told level edges f first → AreRowsRenewed (row_at_level after level g edges) asked first rows changed →
    ((t : SwitchId) → is_in asked t ≡ false → row_at_level told level f edges t ≡ row_at_level after level g edges t) → AreLevelRows after level edges g rows
rows_near told after level edges f g asked first rows changed h r same = record { all = λ t. r.now t ∙ by t (is_in asked t) refl }
  where
    by : (t : SwitchId) (b : Bool) → is_in asked t ≡ b → cond b (row_at_level after level g edges t) (row_in first t) ≡ row_at_level after level g edges t
    by t true e = refl
    by t false e = h.all t ∙ same t e

-- ---- what the rows of a switch say together
core_same : (told : Told) (e : Edge) (c : SwitchId) → leads_by told 1 (leads_down told) e c ≡ core_leads_to told e.pod e.switch c
core_same told e c =
    sym (any_kept (λ x. has_level told x 1) (λ a. has_pod told a e.pod && is_alive told a e.switch) (alive_neighbours told c))

up_same : (told : Told) (e : Edge) (xs : List SwitchId) →
    list_any (λ x. has_level told x 2 && leads_by told 1 (leads_down told) e x) xs
    ≡ list_any (λ x. has_level told x 2 && core_leads_to told e.pod e.switch x) xs
up_same told e [] = refl
up_same told e (x ∷ xs) = λ i. (has_level told x 2 && core_same told e x i) || up_same told e xs i

same_leads : (told : Told) (e : Edge) (u : SwitchId) (in_level in_pod : Bool) → has_pod told u e.pod ≡ in_pod →
    cond in_level (cond in_pod (leads_down told e u) (leads_by told 2 (leads_by told 1 (leads_down told)) e u))
    (cond (has_level told u 2) (leads_by told 1 (leads_down told) e u) false)
    ≡ cond in_level (cond in_pod (is_alive told u e.switch) (list_any (core_leads_to told e.pod e.switch) (alive_at_level told u 2)))
    (cond (has_level told u 2) (core_leads_to told e.pod e.switch u) false)
same_leads told e u true true pod = ap (λ b. b && is_alive told u e.switch) pod
same_leads told e u true false pod =
    up_same told e (alive_neighbours told u)
    ∙ sym (any_kept (λ x. has_level told x 2) (core_leads_to told e.pod e.switch) (alive_neighbours told u))
same_leads told e u false in_pod pod = ap (λ b. cond (has_level told u 2) b false) (core_same told e u)

module _ (told : Told) (edges : List Edge) (known : Reach) (reach : IsReach told edges known) where
  abbrev leads_in : SwitchId → ℕ → Edge → Bool
  leads_in u i e =
      leads_at (place_of told u) e (value_in known.down.entries u i) (value_in known.core.entries u i) (value_in known.up.entries u i)

  pub leads_by_rows : (u : SwitchId) (i : ℕ) (d : Edge) → i < length edges →
      leads_in u i (get_or edges i d) ≡ leads_to told (get_or edges i d).pod (get_or edges i d).switch u
  leads_by_rows u i d within =
      by (has_level told u 1) (has_level told u 2) refl refl
      ∙ same_leads told (get_or edges i d) u (has_level told u 1) (has_pod told u (get_or edges i d).pod) refl
    where
      e : Edge
      e = get_or edges i d

      by : (a b : Bool) → has_level told u 1 ≡ a → has_level told u 2 ≡ b →
          cond a (cond (has_pod told u e.pod) (value_in known.down.entries u i) (value_in known.up.entries u i)) (cond b (value_in known.core.entries u i) false)
          ≡ cond a (cond (has_pod told u e.pod) (leads_down told e u) (leads_by told 2 (leads_by told 1 (leads_down told)) e u))
          (cond b (leads_by told 1 (leads_down told) e u) false)
      by true b one two =
          let x = value_there told 1 edges (leads_down told) known.down.entries reach.by_link u i d one within in
          let z = value_there told 1 edges (leads_by told 2 (leads_by told 1 (leads_down told))) known.up.entries reach.by_two u i d one within in
          λ j. cond (has_pod told u e.pod) (x j) (z j)
      by false true one two = value_there told 2 edges (leads_by told 1 (leads_down told)) known.core.entries reach.by_core u i d two within
      by false false one two = refl
