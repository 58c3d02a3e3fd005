-- A list that is made item by item is all that its switch avoids.
use Rattle.std.proofs.Common.{◌≡◌, ℕ, ◌+◌, ◌==◌, ◌&&◌, ◌||◌, not, arith, Bool, true, false, cond, List, [], ◌∷◌, ◌++◌, map, Option, Some, None, append_assoc, refl, sym, ap, ◌∙◌}
use Rattle.std.specs.Prelude.{fold, is_some}
use Rattle.std.specs.List.{cons_option, filter, filter_map, flat_map, list_any}
use Rattle.std.proofs.lemmas.Bool.{eqb-true, false≢true}
use Rattle.std.proofs.lemmas.List.{append-nil}
use Rattle.std.specs.BTreeSet.{insert_key}
use Rattle.std.proofs.lemmas.List.Sums.{fold-append}
use Rattle.pl_frame.specs.declared.address.SwitchId.{SwitchId}
use Rattle.pl_layouts.specs.Equality.{same_switch}
use Rattle.pl_node.specs.ManagerViews.{PlacedEdge, Told, edge_at, neighbours, place_of, placed_edges, switches}
use Rattle.pl_node.specs.AvoidLists.{avoid_list, avoided_at, avoided_cmp, is_above, is_cut, is_level_above, is_sent_down, leads_to}
use Rattle.pl_manager_rule.proofs.Exports.{avoided_exact, avoided_total}
use Rattle.pl_reports.proofs.Exports.{placed_in}
use Rattle.pl_faults.specs.declared.edges.Edge.{Edge}
use Rattle.pl_faults.specs.declared.leading.Leading.{Leading}
use Rattle.pl_faults.specs.Making.{Avoided, placed_as, with_neighbour, with_placed}
use Rattle.pl_faults.specs.Missed.{IsLeading, avoided_of, is_avoided, is_upper, missed_by, missed_in}
use Rattle.pl_faults.proofs.Filling.{fold_in_order}

-- what passes a test, and then another
pub any_kept : {X : Type 0} (q f : X → Bool) (xs : List X) → list_any f (filter q xs) ≡ list_any (λ x. q x && f x) xs
any_kept q f [] = refl
any_kept q f (x ∷ xs) = by (any_kept q f xs) (q x)
  where
    by : list_any f (filter q xs) ≡ list_any (λ z. q z && f z) xs → (b : Bool) →
        list_any f (cond b (x ∷ filter q xs) (filter q xs)) ≡ ((b && f x) || list_any (λ z. q z && f z) xs)
    by rest true = ap (λ r. f x || r) rest
    by rest false = rest

module _ (told : Told) (s : SwitchId) where
  neighbours_made : (us : List SwitchId) (list : List Avoided) →
      fold (with_neighbour told s) list us ≡ fold (insert_key avoided_cmp) list (flat_map (avoided_at told s) (filter (is_above told s) us))
  unfolding with_neighbour
  neighbours_made [] list = refl
  neighbours_made (u ∷ us) list = by (λ l. neighbours_made us l) (is_above told s u)
    where
      by : ((l : List Avoided) → fold (with_neighbour told s) l us
          ≡ fold (insert_key avoided_cmp) l (flat_map (avoided_at told s) (filter (is_above told s) us))) → (b : Bool) →
          fold (with_neighbour told s) (cond b (fold (insert_key avoided_cmp) list (avoided_at told s u)) list) us
          ≡ fold (insert_key avoided_cmp) list (flat_map (avoided_at told s) (cond b (u ∷ filter (is_above told s) us) (filter (is_above told s) us)))
      by rest true =
          rest (fold (insert_key avoided_cmp) list (avoided_at told s u))
          ∙ sym (fold-append (insert_key avoided_cmp) list (avoided_at told s u) (flat_map (avoided_at told s) (filter (is_above told s) us)))
      by rest false = rest list

  pub list_made : fold (with_neighbour told s) [] (neighbours told s) ≡ avoid_list told s
  unfolding avoid_list
  list_made =
      neighbours_made (neighbours told s) []
      ∙ fold_in_order avoided_cmp avoided_total avoided_exact (flat_map (avoided_at told s) (filter (is_above told s) (neighbours told s)))

-- ---- what is avoided, by what a neighbour misses
pub put_where : (test : Edge → Bool) (u : SwitchId) (es : List Edge) (list : List Avoided) →
    fold (λ (l : List Avoided) (e : Edge). cond (test e) (insert_key avoided_cmp l (u, e.pod, e.position)) l) list es
    ≡ fold (insert_key avoided_cmp) list (map (λ (e : Edge). (u, e.pod, e.position)) (filter test es))
put_where test u [] list = refl
put_where test u (e ∷ es) list = by (λ l. put_where test u es l) (test e)
  where
    by : ((l : List Avoided) → fold (λ (m : List Avoided) (x : Edge). cond (test x) (insert_key avoided_cmp m (u, x.pod, x.position)) m) l es
        ≡ fold (insert_key avoided_cmp) l (map (λ (x : Edge). (u, x.pod, x.position)) (filter test es))) → (b : Bool) →
        fold (λ (m : List Avoided) (x : Edge). cond (test x) (insert_key avoided_cmp m (u, x.pod, x.position)) m) (cond b (insert_key avoided_cmp list (u, e.pod, e.position)) list) es
        ≡ fold (insert_key avoided_cmp) list (map (λ (x : Edge). (u, x.pod, x.position)) (cond b (e ∷ filter test es) (filter test es)))
    by rest true = rest (insert_key avoided_cmp list (u, e.pod, e.position))
    by rest false = rest list

module _ (told : Told) (s u : SwitchId) where
  abbrev entry : PlacedEdge → Avoided
  entry e = (u, e.pod, e.position)

  abbrev entry_of : Edge → Avoided
  entry_of e = (u, e.pod, e.position)

  abbrev stays : Edge → Bool
  stays = is_avoided (place_of told s) s

  kept_of : (e : Edge) (es : List Edge) (z : Bool) →
      filter stays (cond z (e ∷ es) es) ≡ cond z (cond (stays e) (e ∷ filter stays es) (filter stays es)) (filter stays es)
  kept_of e es true = refl
  kept_of e es false = refl

  cut_of : (e : Edge) (cut : List PlacedEdge) (kept : List Edge) → map entry cut ≡ map entry_of kept → (x y z : Bool) →
      map entry (cond (x && (y && z)) (placed_as e ∷ cut) cut) ≡ map entry_of (cond z (cond (x && y) (e ∷ kept) kept) kept)
  cut_of e cut kept rest true true true = ap (λ l. entry_of e ∷ l) rest
  cut_of e cut kept rest true true false = rest
  cut_of e cut kept rest true false true = rest
  cut_of e cut kept rest true false false = rest
  cut_of e cut kept rest false true true = rest
  cut_of e cut kept rest false true false = rest
  cut_of e cut kept rest false false true = rest
  cut_of e cut kept rest false false false = rest

  cut_missed : (es : List Edge) →
      map entry (filter (is_cut told s u) (map placed_as es)) ≡ avoided_of (place_of told s) s u (missed_by told es u)
  cut_missed [] = refl
  cut_missed (e ∷ es) =
      cut_of e (filter (is_cut told s u) (map placed_as es)) (filter stays (missed_by told es u)) (cut_missed es)
      (not (same_switch e.switch s)) (not (is_sent_down told s e.pod)) (not (leads_to told e.pod e.switch u))
      ∙ sym (ap (map entry_of) (kept_of e (missed_by told es u) (not (leads_to told e.pod e.switch u))))

  pub avoided_missed : (es : List Edge) → map placed_as es ≡ placed_edges told →
      avoided_at told s u ≡ avoided_of (place_of told s) s u (missed_by told es u)
  avoided_missed es placed = ap (λ ps. map entry (filter (is_cut told s u) ps)) (sym placed) ∙ cut_missed es

  is_upper_above : (low high : Option ℕ) → is_level_above low high ≡ true → is_upper high ≡ true
  is_upper_above None None h = absurd (false≢true h)
  is_upper_above None (Some high) h = absurd (false≢true h)
  is_upper_above (Some low) None h = absurd (false≢true h)
  is_upper_above (Some low) (Some high) h = by (high == 0) refl
    where
      by : (b : Bool) → (high == 0) ≡ b → not b ≡ true
      by false e = refl
      by true e = let zero_so = eqb-true high 0 e in let one_more = eqb-true high (low + 1) h in absurd (omega arith)

  pub upper_above : is_above told s u ≡ true → is_upper (place_of told u).level ≡ true
  upper_above h = is_upper_above (place_of told s).level (place_of told u).level h

  -- where u is above s
  pub avoided_kept : (known : Leading) → IsLeading told known → is_above told s u ≡ true →
      avoided_at told s u ≡ avoided_of (place_of told s) s u (missed_in known.misses.entries u)
  avoided_kept known leading above =
      avoided_missed known.edges.items leading.placed
      ∙ ap (avoided_of (place_of told s) s u)
      (sym (leading.missed_are u ∙ ap (λ b. cond b (missed_by told known.edges.items u) []) (upper_above above)))

  -- a neighbour that misses none adds none
  pub none_missed : (known : Leading) (list : List Avoided) → IsLeading told known → missed_in known.misses.entries u ≡ [] →
      list ≡ with_neighbour told s list u
  unfolding with_neighbour
  none_missed known list leading none = by (is_above told s u) refl
    where
      by : (b : Bool) → is_above told s u ≡ b → list ≡ cond b (fold (insert_key avoided_cmp) list (avoided_at told s u)) list
      by true above =
          sym (ap (fold (insert_key avoided_cmp) list) (avoided_kept known leading above ∙ ap (avoided_of (place_of told s) s u) none))
      by false above = refl

-- ---- placed edge switches, one by one
placed_one_by_one : {X Y : Type 0} (f : X → Option Y) (step : List Y → Option Y → List Y) →
    ((ys : List Y) → step ys None ≡ ys) → ((ys : List Y) (y : Y) → step ys (Some y) ≡ ys ++ y ∷ []) → (xs : List X) (acc : List Y) →
    fold (λ ys x. step ys (f x)) acc xs ≡ acc ++ filter_map f xs
placed_one_by_one f step none some [] acc = sym (append-nil acc)
placed_one_by_one {X} {Y} f step none some (x ∷ xs) acc = by (λ l. placed_one_by_one f step none some xs l) (f x)
  where
    by : ((l : List Y) → fold (λ ys z. step ys (f z)) l xs ≡ l ++ filter_map f xs) → (o : Option Y) →
        fold (λ ys z. step ys (f z)) (step acc o) xs ≡ acc ++ cons_option o (filter_map f xs)
    by rest None = rest (step acc None) ∙ ap (λ l. l ++ filter_map f xs) (none acc)
    by rest (Some y) = rest (step acc (Some y)) ∙ ap (λ l. l ++ filter_map f xs) (some acc y) ∙ append_assoc acc (y ∷ []) (filter_map f xs)

-- those of which nothing comes can be left out first
of_some : {X Y : Type 0} (f : X → Option Y) (xs : List X) → filter_map f (filter (λ x. is_some (f x)) xs) ≡ filter_map f xs
of_some f [] = refl
of_some f (x ∷ xs) = by (of_some f xs) (f x) refl
  where
    by : filter_map f (filter (λ z. is_some (f z)) xs) ≡ filter_map f xs → (o : Option _) → f x ≡ o →
        filter_map f (cond (is_some o) (x ∷ filter (λ z. is_some (f z)) xs) (filter (λ z. is_some (f z)) xs)) ≡ cons_option (f x) (filter_map f xs)
    by rest None e = rest ∙ ap (λ o. cons_option o (filter_map f xs)) (sym e)
    by rest (Some y) e = ap (cons_option (f x)) rest

-- what a switch is as a placed edge switch
abbrev pub edge_in : Told → SwitchId → Option PlacedEdge
edge_in told s = edge_at s (place_of told s)

-- the placed edge switches, of their ids
pub edges_again : (told : Told) → filter_map (edge_in told) (map (λ e. e.switch) (placed_edges told)) ≡ placed_edges told
edges_again told = ap (filter_map (edge_in told)) (sym (placed_in told (switches told))) ∙ of_some (edge_in told) (switches told)

pub edges_placed : (told : Told) → fold (λ es s. with_placed es (edge_in told s)) [] (map (λ e. e.switch) (placed_edges told)) ≡ placed_edges told
edges_placed told =
    placed_one_by_one (edge_in told) with_placed (λ es. refl) (λ es e. refl) (map (λ e. e.switch) (placed_edges told)) [] ∙ edges_again told
