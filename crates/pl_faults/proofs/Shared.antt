-- What a switch avoids is what its neighbours above miss, but for its own address or its own pod.
use Rattle.std.proofs.Common.{◌≡◌, ◌⊎◌, ◌∙◌, ◌==◌, ◌&&◌, ◌+◌, ◌<◌, ℕ, Bool, true, false, cond, not, List, [], ◌∷◌, ◌++◌, map, length, get_or, take, drop, take-append-drop, Option, Some, None, refl, sym, ap, subst, inl, inr}
use Rattle.std.specs.Prelude.{fold}
use Rattle.std.specs.List.{filter, flat_map}
use Rattle.std.specs.List.Sorted.{IsStrictlySortedBy}
use Rattle.std.specs.BTreeSet.{insert_key}
use Rattle.std.specs.Option.{option_map}
use Rattle.std.proofs.lemmas.List.{take_more}
use Rattle.std.proofs.lemmas.List.Elements.{filter-append}
use Rattle.std.proofs.lemmas.List.Kept.{IsStrictlySortedBy-filter}
use Rattle.std.proofs.lemmas.Bool.{and_from, and_parts, eq-eqb, eqb-true, false≢true, false_from_ne_true, not-true}
use Rattle.pl_frame.specs.declared.address.SwitchId.{SwitchId}
use Rattle.pl_layouts.specs.declared.place.Place.{Place}
use Rattle.pl_layouts.specs.Equality.{same_switch}
use Rattle.pl_layouts.specs.Placement.{is_known}
use Rattle.pl_node.specs.ManagerViews.{PlacedEdge, Told, neighbours, place_of}
use Rattle.pl_node.specs.AvoidLists.{Avoids, avoid_list, avoided_at, avoided_cmp, is_above, is_level_above, is_sent_down, leads_to}
use Rattle.pl_node.specs.declared.hidden.Hidden.{Hidden}
use Rattle.pl_node.specs.Hidden.{hidden_at, shown}
use Rattle.pl_node.proofs.Exports.{IsAmong, among_filter, among_filtered, among_map, among_mapped, among_of_Contains, Contains-of_among, rising_in_order}
use Rattle.pl_manager_rule.proofs.Exports.{among_placed, avoided_exact, avoided_is_listed, avoided_total, listed_is_avoided, placed_among, same_is}
use Rattle.pl_reports.proofs.Exports.{same_rising}
use Rattle.pl_faults.specs.declared.edges.Edge.{Edge}
use Rattle.pl_faults.specs.declared.leading.Leading.{Leading}
use Rattle.pl_faults.specs.declared.sharing.Shared.{Shared}
use Rattle.pl_faults.specs.Making.{Avoided, entry_at, placed_as}
use Rattle.pl_faults.specs.Missed.{AreApart, IsLeading, Misses, is_there, missed_above, missed_by, missed_in, with_above}
use Rattle.pl_faults.specs.Sharing.{CanShare, hidden_of, own_address}
use Rattle.pl_faults.proofs.Filling.{among_fold, fold_among, fold_rises, none_rise}
use Rattle.pl_faults.proofs.Made.{upper_above}

pub shared_at : (apart : Bool) (last : Option Shared) {a b : Told} {k m : Leading} → a ≡ b → k ≡ m → CanShare a k apart last → CanShare b m apart last
shared_at apart last {a} {b} {k} {m} x y h = subst (λ (t : Told). CanShare t m apart last) x (subst (λ (l : Leading). CanShare a l apart last) y h)

list_rises : (told : Told) (s : SwitchId) → IsStrictlySortedBy avoided_cmp (avoid_list told s)
unfolding avoid_list
list_rises told s = rising_in_order avoided_cmp avoided_total (flat_map (avoided_at told s) (filter (is_above told s) (neighbours told s)))

-- ---- what neighbours above miss
record IsFrom (told : Told) (misses : Misses) (level : Option ℕ) (x : Avoided) (u : SwitchId) : Type 0 where
  above : is_level_above level (place_of told u).level ≡ true
  missed : IsAmong x (map (entry_at u) (missed_in misses u))

module _ (told : Told) (misses : Misses) (level : Option ℕ) where
  one_above : (x : Avoided) (u : SwitchId) (list : List Avoided) → IsAmong x (with_above told misses level list u) → IsAmong x list ⊎ IsFrom told misses level x u
  one_above x u list h = by (is_level_above level (place_of told u).level) refl h
    where
      by : (b : Bool) → is_level_above level (place_of told u).level ≡ b →
          IsAmong x (cond b (fold (insert_key avoided_cmp) list (map (entry_at u) (missed_in misses u))) list) → IsAmong x list ⊎ IsFrom told misses level x u
      by true e k = elim (fold_among avoided_cmp avoided_total avoided_exact x (map (entry_at u) (missed_in misses u)) list k) [
        | inl old ↦ inl old
        | inr new ↦ inr (record { above = e; missed = new })
      ]
      by false e k = inl k

  above_one : (x : Avoided) (u : SwitchId) (list : List Avoided) → IsAmong x list ⊎ IsFrom told misses level x u → IsAmong x (with_above told misses level list u)
  above_one x u list h = by (is_level_above level (place_of told u).level) refl h
    where
      by : (b : Bool) → is_level_above level (place_of told u).level ≡ b → IsAmong x list ⊎ IsFrom told misses level x u →
          IsAmong x (cond b (fold (insert_key avoided_cmp) list (map (entry_at u) (missed_in misses u))) list)
      by true e (inl old) = among_fold avoided_cmp avoided_total avoided_exact x (map (entry_at u) (missed_in misses u)) list (inl old)
      by true e (inr new) = among_fold avoided_cmp avoided_total avoided_exact x (map (entry_at u) (missed_in misses u)) list (inr new.missed)
      by false e (inl old) = old
      by false e (inr new) = absurd (false≢true (sym e ∙ new.above))

  among_above : (x : Avoided) (us : List SwitchId) (list : List Avoided) → IsAmong x (fold (with_above told misses level) list us) →
      IsAmong x list ⊎ ((u : SwitchId) × IsAmong u us × IsFrom told misses level x u)
  among_above x [] list h = inl h
  among_above x (u ∷ us) list h = elim (among_above x us (with_above told misses level list u) h) [
    | inl before ↦ elim (one_above x u list before) [ inl old ↦ inl old | inr new ↦ inr (u, inl refl, new) ]
    | inr later ↦ inr (later.0, inr later.1, later.2)
  ]

  above_among : (x : Avoided) (us : List SwitchId) (list : List Avoided) → IsAmong x list ⊎ ((u : SwitchId) × IsAmong u us × IsFrom told misses level x u) →
      IsAmong x (fold (with_above told misses level) list us)
  above_among x [] list (inl h) = h
  above_among x [] list (inr h) = absurd h.1
  above_among x (u ∷ us) list (inl h) = above_among x us (with_above told misses level list u) (inl (above_one x u list (inl h)))
  above_among x (u ∷ us) list (inr (v, inl is, from)) =
      above_among x us (with_above told misses level list u) (inl (above_one x u list (inr (subst (IsFrom told misses level x) (sym is) from))))
  above_among x (u ∷ us) list (inr (v, inr there, from)) = above_among x us (with_above told misses level list u) (inr (v, there, from))

  above_rises : (us : List SwitchId) (list : List Avoided) → IsStrictlySortedBy avoided_cmp list →
      IsStrictlySortedBy avoided_cmp (fold (with_above told misses level) list us)
  above_rises [] list s = s
  above_rises (u ∷ us) list s = above_rises us (with_above told misses level list u) (by (is_level_above level (place_of told u).level))
    where
      by : (b : Bool) → IsStrictlySortedBy avoided_cmp (cond b (fold (insert_key avoided_cmp) list (map (entry_at u) (missed_in misses u))) list)
      by true = fold_rises avoided_cmp avoided_total avoided_exact (map (entry_at u) (missed_in misses u)) list s
      by false = s

-- a neighbour that misses none adds nothing
pub none_above : (told : Told) (misses : Misses) (level : Option ℕ) (u : SwitchId) (list : List Avoided) → missed_in misses u ≡ [] →
    list ≡ with_above told misses level list u
none_above told misses level u list none = by (is_level_above level (place_of told u).level)
  where
    by : (b : Bool) → list ≡ cond b (fold (insert_key avoided_cmp) list (map (entry_at u) (missed_in misses u))) list
    by true = ap (λ es. fold (insert_key avoided_cmp) list (map (entry_at u) es)) (sym none)
    by false = refl

-- those that are not above can be left out
above_alone : (told : Told) (misses : Misses) (level : Option ℕ) (us : List SwitchId) (list : List Avoided) →
    fold (with_above told misses level) list us ≡ fold (with_above told misses level) list (filter (λ u. is_level_above level (place_of told u).level) us)
above_alone told misses level [] list = refl
above_alone told misses level (u ∷ us) list = by (λ l. above_alone told misses level us l) (is_level_above level (place_of told u).level) refl
  where
    by : ((l : List Avoided) → fold (with_above told misses level) l us
        ≡ fold (with_above told misses level) l (filter (λ v. is_level_above level (place_of told v).level) us)) →
        (b : Bool) → is_level_above level (place_of told u).level ≡ b → fold (with_above told misses level) (with_above told misses level list u) us
        ≡ fold (with_above told misses level) list (cond b (u ∷ filter (λ v. is_level_above level (place_of told v).level) us) (filter (λ v. is_level_above level (place_of told v).level) us))
    by rest true e = rest (with_above told misses level list u)
    by rest false e =
        ap (λ b. fold (with_above told misses level) (cond b (fold (insert_key avoided_cmp) list (map (entry_at u) (missed_in misses u))) list) us) e
        ∙ rest list

-- so switches of one level with the same neighbours above share it
pub shared_with : (told : Told) (misses : Misses) (other s : SwitchId) → (place_of told other).level ≡ (place_of told s).level →
    filter (is_above told s) (neighbours told other) ≡ filter (is_above told s) (neighbours told s) →
    missed_above told misses (place_of told other).level other ≡ missed_above told misses (place_of told s).level s
shared_with told misses other s level same =
    ap (λ l. missed_above told misses l other) level
    ∙ above_alone told misses (place_of told s).level (neighbours told other) []
    ∙ ap (fold (with_above told misses (place_of told s).level) []) same
    ∙ sym (above_alone told misses (place_of told s).level (neighbours told s) [])

pub alike_behind : (p : SwitchId → Bool) (xs ys : List SwitchId) (m n : ℕ) → filter p (take m xs) ≡ [] → filter p (take n ys) ≡ [] → drop m xs ≡ drop n ys →
    filter p xs ≡ filter p ys
alike_behind p xs ys m n a b same = behind xs m a ∙ ap (filter p) same ∙ sym (behind ys n b)
  where
    behind : (zs : List SwitchId) (k : ℕ) → filter p (take k zs) ≡ [] → filter p zs ≡ filter p (drop k zs)
    behind zs k none =
        ap (filter p) (sym (take-append-drop k zs)) ∙ filter-append p (take k zs) (drop k zs) ∙ ap (λ l. l ++ filter p (drop k zs)) none

-- none passes so far, and the next one does not
pub none_before_more : (p : SwitchId → Bool) (xs : List SwitchId) (i : ℕ) (d : SwitchId) → i < length xs → p (get_or xs i d) ≡ false →
    filter p (take i xs) ≡ [] → filter p (take (i + 1) xs) ≡ []
none_before_more p xs i d within fails none =
    ap (filter p) (take_more xs i d within) ∙ filter-append p (take i xs) (get_or xs i d ∷ [])
    ∙ ap (λ l. l ++ filter p (get_or xs i d ∷ [])) none ∙ ap (λ b. cond b (get_or xs i d ∷ []) []) fails

level_is : (level : Option ℕ) → is_known level 0 ≡ true → level ≡ Some 0
level_is None h = absurd (false≢true h)
level_is (Some n) h = ap Some (eqb-true n 0 h)

-- ---- what a switch avoids
module _ (told : Told) (known : Leading) (led : IsLeading told known) (apart : AreApart known.edges.items) (s : SwitchId) where
  abbrev edge_at_place : SwitchId → ℕ → ℕ → PlacedEdge
  edge_at_place t pod position = record { switch = t; pod = pod; position = position }

  edge_of : (t : SwitchId) (pod position : ℕ) → place_of told t ≡ record { level = Some 0; position = Some position; pod = Some pod } →
      (e : Edge) × IsAmong e known.edges.items × (placed_as e ≡ edge_at_place t pod position)
  edge_of t pod position placed =
      among_map placed_as (edge_at_place t pod position) known.edges.items
      (subst (IsAmong (edge_at_place t pod position)) (sym led.placed) (placed_among told (edge_at_place t pod position) placed))

  misses : (u : SwitchId) → is_above told s u ≡ true → missed_in known.misses.entries u ≡ missed_by told known.edges.items u
  misses u above = led.missed_are u ∙ ap (λ b. cond b (missed_by told known.edges.items u) []) (upper_above told s u above)

  -- two placed edge switches at one place are one
  one_there : (t v : SwitchId) (pod position : ℕ) → place_of told t ≡ record { level = Some 0; position = Some position; pod = Some pod } →
      place_of told v ≡ record { level = Some 0; position = Some position; pod = Some pod } → t ≡ v
  one_there t v pod position p q =
      let a = edge_of t pod position p in
      let b = edge_of v pod position q in
      let there : is_there a.0 b.0 ≡ true =
      and_from (a.0.pod == b.0.pod) (a.0.position == b.0.position)
      (eq-eqb a.0.pod b.0.pod (ap (λ (e : PlacedEdge). e.pod) a.2 ∙ sym (ap (λ (e : PlacedEdge). e.pod) b.2)))
      (eq-eqb a.0.position b.0.position (ap (λ (e : PlacedEdge). e.position) a.2 ∙ sym (ap (λ (e : PlacedEdge). e.position) b.2))) in
      let same = apart.each a.0 b.0 (Contains-of_among a.0 known.edges.items a.1) (Contains-of_among b.0 known.edges.items b.1) there in
      sym (ap (λ (e : PlacedEdge). e.switch) a.2) ∙ ap (λ (e : Edge). e.switch) same ∙ ap (λ (e : PlacedEdge). e.switch) b.2

  -- what is hidden is for its own pod, where it is an aggregation switch, or for its own address
  abbrev IsOwn : Avoided → Type 0
  IsOwn x = (is_sent_down told s x.1 ≡ true) ⊎ (place_of told s ≡ record { level = Some 0; position = Some x.2; pod = Some x.1 })

  hidden_is_own : (x : Avoided) → hidden_at (hidden_of (place_of told s)) x.1 x.2 ≡ true → IsOwn x
  hidden_is_own x h = by (is_known (place_of told s).level 1) refl h
    where
      pods : (o : Option ℕ) → (place_of told s).pod ≡ o → is_known (place_of told s).level 1 ≡ true →
          hidden_at (option_map (λ pod. let h : Hidden = record { pod = pod; position = None } in h) o) x.1 x.2 ≡ true → is_sent_down told s x.1 ≡ true
      pods None e upper k = absurd (false≢true k)
      pods (Some p) e upper k =
          and_from (is_known (place_of told s).level 1) (is_known (place_of told s).pod x.1) upper
          (ap (λ o. is_known o x.1) e ∙ (and_parts (p == x.1) true k).0)

      own : (o r : Option ℕ) → (place_of told s).pod ≡ o → (place_of told s).position ≡ r → is_known (place_of told s).level 0 ≡ true →
          hidden_at (own_address o r) x.1 x.2 ≡ true → place_of told s ≡ record { level = Some 0; position = Some x.2; pod = Some x.1 }
      own None r e f low k = absurd (false≢true k)
      own (Some p) None e f low k = absurd (false≢true k)
      own (Some p) (Some q) e f low k =
          let two = and_parts (p == x.1) (q == x.2) k in
          let level = level_is (place_of told s).level low in
          let position : (place_of told s).position ≡ Some x.2 = f ∙ ap Some (eqb-true q x.2 two.1) in
          let pod : (place_of told s).pod ≡ Some x.1 = e ∙ ap Some (eqb-true p x.1 two.0) in
          (λ i. record { level = level i; position = position i; pod = pod i })

      low_or_not : (b : Bool) → is_known (place_of told s).level 0 ≡ b →
          hidden_at (cond b (own_address (place_of told s).pod (place_of told s).position) None) x.1 x.2 ≡ true → IsOwn x
      low_or_not true low k = inr (own (place_of told s).pod (place_of told s).position refl refl low k)
      low_or_not false low k = absurd (false≢true k)

      by : (b : Bool) → is_known (place_of told s).level 1 ≡ b →
          hidden_at (cond b (option_map (λ pod. let h : Hidden = record { pod = pod; position = None } in h) (place_of told s).pod)
          (cond (is_known (place_of told s).level 0) (own_address (place_of told s).pod (place_of told s).position) None)) x.1 x.2 ≡ true → IsOwn x
      by true upper k = inl (pods (place_of told s).pod refl upper k)
      by false upper k = low_or_not (is_known (place_of told s).level 0) refl k

  -- and what is its own is hidden
  sent_down_hidden : (x : Avoided) → is_sent_down told s x.1 ≡ true → hidden_at (hidden_of (place_of told s)) x.1 x.2 ≡ true
  sent_down_hidden x down =
      let two = and_parts (is_known (place_of told s).level 1) (is_known (place_of told s).pod x.1) down in
      ap (λ b. hidden_at (cond b (option_map (λ pod. let h : Hidden = record { pod = pod; position = None } in h) (place_of told s).pod)
      (cond (is_known (place_of told s).level 0) (own_address (place_of told s).pod (place_of told s).position) None)) x.1 x.2) two.0
      ∙ by (place_of told s).pod two.1
    where
      by : (o : Option ℕ) → is_known o x.1 ≡ true →
          hidden_at (option_map (λ pod. let h : Hidden = record { pod = pod; position = None } in h) o) x.1 x.2 ≡ true
      by None k = absurd (false≢true k)
      by (Some p) k = ap (λ b. b && true) k

  own_address_hidden : (x : Avoided) → place_of told s ≡ record { level = Some 0; position = Some x.2; pod = Some x.1 } →
      hidden_at (hidden_of (place_of told s)) x.1 x.2 ≡ true
  own_address_hidden x at =
      ap (λ (p : Place). hidden_at (hidden_of p) x.1 x.2) at
      ∙ and_from (x.1 == x.1) (x.2 == x.2) (eq-eqb x.1 x.1 refl) (eq-eqb x.2 x.2 refl)

  -- what it avoids is not hidden
  avoided_shown : (x : Avoided) → Avoids told s x → hidden_at (hidden_of (place_of told s)) x.1 x.2 ≡ false
  avoided_shown x a = false_from_ne_true (hidden_at (hidden_of (place_of told s)) x.1 x.2) (λ h. elim (hidden_is_own x h) [
    | inl down ↦ absurd (false≢true (sym a.not_down ∙ down))
    | inr own ↦
        let same = one_there a.edge s x.1 x.2 a.placed own in
        absurd (false≢true (sym a.another ∙ eq-eqb a.edge.0 s.0 (ap (λ (t : SwitchId). t.0) same)))
  ])

  avoided_whole : (x : Avoided) → Avoids told s x → IsAmong x (missed_above told known.misses.entries (place_of told s).level s)
  avoided_whole x a =
      let of = edge_of a.edge x.1 x.2 a.placed in
      let is : entry_at x.0 of.0 ≡ x = (λ i. (x.0, (of.2 i).pod, (of.2 i).position)) in
      above_among told known.misses.entries (place_of told s).level x (neighbours told s) []
      (inr (
        x.0,
        among_of_Contains x.0 (neighbours told s) a.neighbour,
        record {
          above = a.above;
          missed = subst (λ z. IsAmong z (map (entry_at x.0) (missed_in known.misses.entries x.0))) is
              (among_mapped (entry_at x.0) of.0 (missed_in known.misses.entries x.0)
              (subst (IsAmong of.0) (sym (misses x.0 a.above))
              (among_filtered (λ (e : Edge). not (leads_to told e.pod e.switch x.0)) of.0 known.edges.items of.1
              (ap not ((λ i. leads_to told (of.2 i).pod (of.2 i).switch x.0) ∙ a.cut)))));
        },
      ))

  avoids : (u : SwitchId) (e : Edge) → IsAmong u (neighbours told s) → is_above told s u ≡ true →
      place_of told e.switch ≡ record { level = Some 0; position = Some e.position; pod = Some e.pod } → leads_to told e.pod e.switch u ≡ false →
      hidden_at (hidden_of (place_of told s)) e.pod e.position ≡ false → Avoids told s (entry_at u e)
  avoids u e near above placed cut clear = record {
    neighbour = Contains-of_among u (neighbours told s) near;
    above = above;
    edge = e.switch;
    placed = placed;
    another = false_from_ne_true (same_switch e.switch s) (λ same.
        false≢true (sym clear ∙ own_address_hidden (entry_at u e)
        (subst (λ t. place_of told t ≡ record { level = Some 0; position = Some e.position; pod = Some e.pod }) (same_is e.switch s same) placed)));
    not_down = false_from_ne_true (is_sent_down told s e.pod) (λ down. false≢true (sym clear ∙ sent_down_hidden (entry_at u e) down));
    cut = cut;
  }

  -- and what neighbours miss and is not hidden it avoids
  shown_avoided : (x : Avoided) → IsAmong x (missed_above told known.misses.entries (place_of told s).level s) →
      hidden_at (hidden_of (place_of told s)) x.1 x.2 ≡ false → Avoids told s x
  shown_avoided x h clear = elim (among_above told known.misses.entries (place_of told s).level x (neighbours told s) [] h) [
    | inl none ↦ absurd none
    | inr from ↦
        let u = from.0 in
        let above : is_above told s u ≡ true = from.2.above in
        let e = among_map (entry_at u) x (missed_in known.misses.entries u) from.2.missed in
        let missed = among_filter (λ (f : Edge). not (leads_to told f.pod f.switch u)) e.0 known.edges.items (subst (IsAmong e.0) (misses u above) e.1) in
        let placed = among_placed told (placed_as e.0) (subst (IsAmong (placed_as e.0)) led.placed (among_mapped placed_as e.0 known.edges.items missed.0)) in
        let cut = not-true (leads_to told e.0.pod e.0.switch u) missed.1 in
        subst (Avoids told s) e.2 (avoids u e.0 from.1 above placed.place cut
        (subst (λ (z : Avoided). hidden_at (hidden_of (place_of told s)) z.1 z.2 ≡ false) (sym e.2) clear))
  ]

  pub shown_list : shown (hidden_of (place_of told s)) (missed_above told known.misses.entries (place_of told s).level s) ≡ avoid_list told s
  unfolding shown
  shown_list =
      let hidden = hidden_of (place_of told s) in
      let whole = missed_above told known.misses.entries (place_of told s).level s in
      same_rising avoided_cmp avoided_total avoided_exact (shown hidden whole) (avoid_list told s)
      (IsStrictlySortedBy-filter avoided_cmp (λ (y : Avoided). not (hidden_at hidden y.1 y.2)) whole
      (above_rises told known.misses.entries (place_of told s).level (neighbours told s) [] (none_rise avoided_cmp avoided_total avoided_exact))) (list_rises told s)
      (λ x h.
      let two = among_filter (λ (y : Avoided). not (hidden_at hidden y.1 y.2)) x whole h in
      among_of_Contains x (avoid_list told s) (avoided_is_listed told s x (shown_avoided x two.0 (not-true (hidden_at hidden x.1 x.2) two.1))))
      (λ x h.
      let a = listed_is_avoided told s x (Contains-of_among x (avoid_list told s) h) in
      among_filtered (λ (y : Avoided). not (hidden_at hidden y.1 y.2)) x whole (avoided_whole x a) (ap not (avoided_shown x a)))
