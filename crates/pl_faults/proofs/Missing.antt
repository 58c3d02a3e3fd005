-- Which edge switches each switch misses, switch by switch.
use Rattle.std.proofs.Common.{◌≡◌, ℕ, ◌<◌, ◌+◌, ◌==◌, ◌&&◌, zero, suc, arith, Bool, true, false, cond, not, List, [], ◌∷◌, ◌++◌, length, take, get_or, Option, Some, None, refl, sym, ap, ◌∙◌, subst}
use Rattle.std.specs.Bool.{Decides}
use Rattle.std.specs.List.{filter}
use Rattle.std.specs.BTreeMap.{is_at}
use Rattle.std.specs.BTreeSet.{insert_key}
use Rattle.std.proofs.lemmas.Bool.{false≢true}
use Rattle.std.proofs.lemmas.Bool.Decides.{Decides-and, Decides-eqb}
use Rattle.std.proofs.lemmas.List.{append-nil, take_more}
use Rattle.std.proofs.lemmas.List.Elements.{filter-append}
use Rattle.pl_lemmas.proofs.Exports.{false_before}
use Rattle.pl_frame.specs.declared.address.SwitchId.{SwitchId}
use Rattle.pl_node.specs.ManagerViews.{Told, id_cmp, place_of, switches}
use Rattle.pl_node.specs.AvoidLists.{leads_to}
use Rattle.pl_manager_rule.proofs.Exports.{id_is}
use Rattle.pl_reports.specs.Kept.{has_told}
use Rattle.pl_faults.specs.declared.edges.Edge.{Edge}
use Rattle.pl_faults.specs.Missed.{AreMissed, AreMissesRenewed, Misses, is_upper, missed_at, missed_by, missed_in, with_unled}
use Rattle.pl_faults.specs.declared.reach.Reach.{Reach}
use Rattle.pl_faults.specs.Listed.{is_in}
use Rattle.pl_faults.specs.Rows.{HasSameRows, IsReach, leads_at, value_of}
use Rattle.pl_faults.proofs.Gathered.{in_itself}
use Rattle.pl_faults.proofs.Reaching.{leads_by_rows, level_told, look_more}

-- one that told nothing misses none
untold_misses : (told : Told) (edges : List Edge) (u : SwitchId) → has_told told u ≡ false → missed_at told edges u ≡ []
untold_misses told edges u none = by (place_of told u).level refl
  where
    by : (o : Option ℕ) → (place_of told u).level ≡ o → cond (is_upper o) (missed_by told edges u) [] ≡ []
    by None e = refl
    by (Some level) e = absurd (false≢true (sym none ∙ level_told told u level e))

-- all are put down anew; who told nothing misses none, before and after
pub misses_whole : (told after : Told) (before edges : List Edge) (first missed : Misses) (ss : List SwitchId) → ss ≡ switches after →
    AreMissed told before first → ((t : SwitchId) → has_told told t ≡ true → has_told after t ≡ true) →
    ((t : SwitchId) → missed_in missed t ≡ cond (is_in ss t) (missed_at after edges t) (missed_in first t)) → AreMissed after edges missed
misses_whole told after before edges first missed ss is was stays h u =
    h u ∙ ap (λ xs. cond (is_in xs u) (missed_at after edges u) (missed_in first u)) is ∙ by (has_told after u) refl
  where
    by : (b : Bool) → has_told after u ≡ b → cond b (missed_at after edges u) (missed_in first u) ≡ missed_at after edges u
    by true e = refl
    by false e =
        was u ∙ untold_misses told before u (false_before (has_told told u) (has_told after u) (stays u) e)
        ∙ sym (untold_misses after edges u e)

-- one more edge switch
kept_more : (f : Edge → Bool) (es : List Edge) (i : ℕ) (d : Edge) → i < length es →
    filter f (take (i + 1) es) ≡ cond (f (get_or es i d)) (filter f (take i es) ++ get_or es i d ∷ []) (filter f (take i es))
kept_more f es i d within =
    ap (filter f) (take_more es i d within) ∙ filter-append f (take i es) (get_or es i d ∷ []) ∙ by (f (get_or es i d))
  where
    by : (b : Bool) → filter f (take i es) ++ cond b (get_or es i d ∷ []) [] ≡ cond b (filter f (take i es) ++ get_or es i d ∷ []) (filter f (take i es))
    by true = refl
    by false = append-nil (filter f (take i es))

pub missed_more : (told : Told) (edges : List Edge) (u : SwitchId) (i : ℕ) (d : Edge) → i < length edges →
    missed_by told (take (i + 1) edges) u
    ≡ with_unled (leads_to told (get_or edges i d).pod (get_or edges i d).switch u) (missed_by told (take i edges) u) (get_or edges i d)
missed_more told edges u i d within = kept_more (λ e. not (leads_to told e.pod e.switch u)) edges i d within

-- ---- a switch at its place whose rows are what they were
filter_alike : (f g : Edge → Bool) (es : List Edge) → ((i : ℕ) (d : Edge) → i < length es → f (get_or es i d) ≡ g (get_or es i d)) →
    filter (λ e. not (f e)) es ≡ filter (λ e. not (g e)) es
filter_alike f g [] h = refl
filter_alike f g (e ∷ es) h =
    let rest = filter_alike f g es (λ i d within. h (suc i) d (omega arith)) in
    let first : f e ≡ g e = h zero e (omega arith) in
    λ j. cond (not (first j)) (e ∷ rest j) (rest j)

module _ (told after : Told) (edges : List Edge) (old new : Reach) (was : IsReach told edges old) (now : IsReach after edges new) where
  same_missed : (u : SwitchId) → place_of after u ≡ place_of told u → HasSameRows old new u → missed_at told edges u ≡ missed_at after edges u
  same_missed u at same =
      (λ j. cond (is_upper (sym at j).level) (missed_by told edges u) [])
      ∙ ap (λ es. cond (is_upper (place_of after u).level) es [])
      (filter_alike (λ e. leads_to told e.pod e.switch u) (λ e. leads_to after e.pod e.switch u) edges
      (λ i d within.
      sym (leads_by_rows told edges old was u i d within)
      ∙ (λ j. leads_at (sym at j) (get_or edges i d) (value_of (sym same.down j) i) (value_of (sym same.core j) i) (value_of (sym same.up j) i))
      ∙ leads_by_rows after edges new now u i d within))

  pub misses_near : (missed fresh : Misses) (turned : List SwitchId) → ((t : SwitchId) → is_in turned t ≡ false → place_of after t ≡ place_of told t) →
      ((t : SwitchId) → is_in turned t ≡ false → HasSameRows old new t) → AreMissed told edges missed →
      ((t : SwitchId) → missed_in fresh t ≡ cond (is_in turned t) (missed_at after edges t) (missed_in missed t)) → AreMissed after edges fresh
  misses_near missed fresh turned places same h put u = put u ∙ by (is_in turned u) refl
    where
      by : (b : Bool) → is_in turned u ≡ b → cond b (missed_at after edges u) (missed_in missed u) ≡ missed_at after edges u
      by true e = refl
      by false e = h u ∙ same_missed u (places u e) (same u e)

-- ---- those that miss others
pub none_missed_anew : (told : Told) (edges : List Edge) (misses : Misses) (changed : List SwitchId) → AreMissesRenewed told edges [] misses misses changed
none_missed_anew told edges misses changed = record { now = λ t. refl; same = λ t out. refl }

pub misses_more : (told : Told) (edges : List Edge) (ss : List SwitchId) (i : ℕ) (d : SwitchId) → i < length ss →
    (first misses after : Misses) (changed more : List SwitchId) (one : List Edge) → AreMissesRenewed told edges (take i ss) first misses changed →
    one ≡ missed_at told edges (get_or ss i d) →
    ((t : SwitchId) → missed_in after t ≡ cond (is_at (id_cmp (get_or ss i d)) t) one (missed_in misses t)) →
    ((t : SwitchId) → is_in changed t ≡ true → is_in more t ≡ true) →
    ((t : SwitchId) → is_in more t ≡ false → missed_in after t ≡ missed_in misses t) → AreMissesRenewed told edges (take (i + 1) ss) first after more
misses_more told edges ss i d within first misses after changed more one h is put stays same = record {
  now = look_more (missed_at told edges) (missed_in misses) (missed_in after) (missed_in first) ss i d one within h.now is put;
  same = λ t out. same t out ∙ h.same t (false_before (is_in changed t) (is_in more t) (stays t) out);
}

-- a switch that is not put among those that changed misses what it missed
pub missed_apart : (s t : SwitchId) (changed : List SwitchId) (old new : Misses) (one : List Edge) → is_in (insert_key id_cmp changed s) t ≡ false →
    missed_in new t ≡ cond (is_at (id_cmp s) t) one (missed_in old t) → missed_in new t ≡ missed_in old t
missed_apart s t changed old new one out put = put ∙ by (is_at (id_cmp s) t) refl
  where
    by : (b : Bool) → is_at (id_cmp s) t ≡ b → cond b one (missed_in old t) ≡ missed_in old t
    by false e = refl
    by true e =
        absurd (false≢true (sym out ∙ subst (λ z. is_in (insert_key id_cmp changed s) z ≡ true) (id_is s t e) (in_itself s changed)))

-- one that misses these already
pub missed_just : (s t : SwitchId) (misses : Misses) (one : List Edge) → missed_in misses s ≡ one →
    missed_in misses t ≡ cond (is_at (id_cmp s) t) one (missed_in misses t)
missed_just s t misses one is = by (is_at (id_cmp s) t) refl
  where
    by : (b : Bool) → is_at (id_cmp s) t ≡ b → missed_in misses t ≡ cond b one (missed_in misses t)
    by true e = ap (missed_in misses) (sym (id_is s t e)) ∙ is
    by false e = refl

-- `==` at edge switches tells just those apart that differ
edge : ℕ → ℕ → ℕ → Edge
edge id pod position = record { switch = record { 0 = id }; pod = pod; position = position }

pub edge_decides : (a b : Edge) → Decides (a.switch.0 == b.switch.0 && (a.pod == b.pod && a.position == b.position)) (a ≡ b)
unfolding edge
edge_decides a b =
    let both =
    Decides-and (a.switch.0 == b.switch.0) (a.pod == b.pod && a.position == b.position) (Decides-eqb a.switch.0 b.switch.0)
    (Decides-and (a.pod == b.pod) (a.position == b.position) (Decides-eqb a.pod b.pod) (Decides-eqb a.position b.position)) in (
      λ h.
          let is = both.0 h in
          ap (λ n. edge n a.pod a.position) is.0 ∙ ap (λ n. edge b.switch.0 n a.position) is.1.0 ∙ ap (λ n. edge b.switch.0 b.pod n) is.1.1,
      λ e. both.1 (ap (λ (x : Edge). x.switch.0) e, (ap (λ (x : Edge). x.pod) e, ap (λ (x : Edge). x.position) e)),
    )
