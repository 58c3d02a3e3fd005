-- The lists and the parts that the manager sends once it heard a word are those of its records then.
use Rattle.std.proofs.Common.{◌≡◌, ◌⊎◌, ℕ, ◌==◌, ◌&&◌, not, Bool, true, false, cond, if◌then◌else◌, List, [], ◌∷◌, map, flat_map, filter, Option, Some, None, unwrap_or, nat_cmp, refl, sym, ap, ◌∙◌, subst, inl, inr, eqb-true, eq-eqb, true≢false}
use Rattle.std.specs.List.{AllByRecursion, list_any}
use Rattle.std.specs.Option.{option_and_then, option_map}
use Rattle.std.specs.BTreeMap.{insert_entry}
use Rattle.std.specs.Map.{keys_of}
use Rattle.std.specs.declared.cmp.Ordering.{Ordering}
use Rattle.std.proofs.lemmas.Bool.{and_parts, false_from_ne_true}
use Rattle.std.proofs.lemmas.Map.Lookups.{exact_unsigned}
use Rattle.pl_frame.specs.declared.address.SwitchId.{SwitchId}
use Rattle.pl_layouts.specs.declared.place.Place.{Place}
use Rattle.pl_layouts.specs.Equality.{same_switch}
use Rattle.pl_layouts.specs.Memberships.{flood}
use Rattle.pl_layouts.specs.Placement.{is_known, nowhere}
use Rattle.pl_layouts.proofs.Exports.{switch_itself}
use Rattle.pl_node.specs.declared.acts.ManagerAct.{ManagerAct}
use Rattle.pl_node.specs.declared.acts.ManagerAct.TheVariants.{Say}
use Rattle.pl_node.specs.declared.messages.ToManager.{ToManager}
use Rattle.pl_node.specs.declared.messages.ToManager.TheVariants as tell
use Rattle.pl_node.specs.declared.messages.ToSwitch.TheVariants as say
use Rattle.pl_node.specs.declared.messages.TreePart.{TreePart}
use Rattle.pl_node.specs.AvoidLists.{avoid_list, avoided_at, avoided_cmp, is_above}
use Rattle.pl_node.specs.ManagerFacts.{groups}
use Rattle.pl_node.specs.ManagerViews.{ManagerView, Members, PlacedEdge, Told, edge_at, has_level, id_cmp, in_order, is_alive, link_cmp, members_cmp, place_of, placed_edges, switches, tellers, value_at, with_members}
use Rattle.pl_node.specs.Trees.{aggregation_part, best_cores, core_for, core_of, core_part, cores, edge_part, needed_edges, part_under, reach, largest, tree_part}
use Rattle.pl_node.proofs.Exports.{among_append, among_filter, among_filtered, among_in_order, among_left, among_map, among_mapped, among_ordered, among_right, any_among, got_among, IsAmong}
use Rattle.pl_manager_rule.specs.ManagerRule.{avoid_acts, changed, changed_of_group, part_in, same_avoid_list, same_part, tree_acts, tree_acts_of, view_after}
use Rattle.pl_manager_rule.proofs.Exports.{among_switches, avoid_lists_alike, found_key, id_exact, keys_inserted, known_among, parts_alike, same_is}
use Rattle.pl_law_records.specs.Words.{avoid_said, part_said}
use Rattle.pl_law_records.proofs.SaidToOneSwitch.{IsSilent, own_said, own_stays, then_more, then_said, then_silent}
use Rattle.pl_law_records.proofs.TellingLinks.{key_kept}

-- Among the items of a list or not.

pub among_or_not : (id : SwitchId) (xs : List SwitchId) → IsAmong id xs ⊎ (IsAmong id xs → ⊥)
among_or_not id xs = by (list_any (λ t. same_switch t id) xs) refl
  where
    by : (b : Bool) → list_any (λ t. same_switch t id) xs ≡ b → IsAmong id xs ⊎ (IsAmong id xs → ⊥)
    by true e = inl (known_among id xs e)
    by false e = inr (λ h. true≢false (sym (any_among (λ t. same_switch t id) id xs h (switch_itself id)) ∙ e))

number_or_not : (n : ℕ) (xs : List ℕ) → IsAmong n xs ⊎ (IsAmong n xs → ⊥)
number_or_not n [] = inr (λ h. h)
number_or_not n (x ∷ xs) = by (number_or_not n xs) (x == n) refl
  where
    by : IsAmong n xs ⊎ (IsAmong n xs → ⊥) → (b : Bool) → (x == n) ≡ b → IsAmong n (x ∷ xs) ⊎ (IsAmong n (x ∷ xs) → ⊥)
    by rest true e = inl (inl (eqb-true x n e))
    by rest false e = elim rest [
      | inl h ↦ inl (inr h)
      | inr none ↦ inr (λ h. elim h [ inl is ↦ true≢false (sym (eq-eqb x n is) ∙ e) | inr later ↦ none later ])
    ]

filter_none : {T : Type 0} (test : T → Bool) (xs : List T) → ((x : T) → IsAmong x xs → test x ≡ true → ⊥) → filter test xs ≡ []
filter_none test [] each = refl
filter_none test (x ∷ xs) each =
    ap (λ b. cond b (x ∷ filter test xs) (filter test xs)) (false_from_ne_true (test x) (each x (inl refl))) ∙ filter_none test xs (λ y h. each y (inr h))

-- A switch of which nothing is known.

module _ (told : Told) (id : SwitchId) (unknown : IsAmong id (tellers told) → ⊥) where
  pub no_list : avoid_list told id ≡ []
  unfolding avoid_list
  no_list =
      ap (λ (ls : List ((SwitchId × SwitchId) × Bool)). in_order avoided_cmp (flat_map (avoided_at told id) (filter (is_above told id) (in_order id_cmp (map (λ l. l.0.1) ls)))))
      (filter_none (λ (l : (SwitchId × SwitchId) × Bool). same_switch l.0.0 id) told.links (λ l h is.
      unknown (among_right id (map (λ p. p.0) told.places) (map (λ k. k.0.0) told.links)
      (subst (λ x. IsAmong x (map (λ (k : (SwitchId × SwitchId) × Bool). k.0.0) told.links)) (same_is l.0.0 id is)
      (among_mapped (λ (k : (SwitchId × SwitchId) × Bool). k.0.0) l told.links h)))))

  no_place : place_of told id ≡ nowhere
  no_place = by (value_at id_cmp told.places id) refl
    where
      by : (o : Option Place) → value_at id_cmp told.places id ≡ o → unwrap_or o nowhere ≡ nowhere
      by None e = refl
      by (Some place) e = absurd (unknown (among_left id (map (λ p. p.0) told.places) (map (λ l. l.0.0) told.links) (found_key id_cmp id_exact told.places id place e)))

  -- it is no core switch of a tree
  chosen_is_known : (group : ℕ) (needed : List SwitchId) (core : SwitchId) → core_for told group needed ≡ Some core → IsAmong core (tellers told)
  chosen_is_known group [] core e = absurd (cc)
  chosen_is_known group (n ∷ needed) core e =
      let best = got_among (best_cores told (n ∷ needed)) _ core e in
      let one = among_filter (λ c. reach told (n ∷ needed) c == largest (map (reach told (n ∷ needed)) (cores told))) core (cores told) best in
      let two = among_filter (λ c. has_level told c 2) core (switches told) one.0 in
      among_ordered id_cmp core (tellers told) two.0

  under_none : (p : Place) → p ≡ nowhere → (b alive : Bool) → b ≡ false → (x y : Option TreePart) (z : PlacedEdge → TreePart) →
      (if b then x else if is_known p.level 1 && alive then y else option_map z (edge_at id p)) ≡ None
  under_none p e true alive is x y z = absurd (true≢false is)
  under_none p e false alive is x y z = subst (λ (q : Place). (if is_known q.level 1 && alive then y else option_map z (edge_at id q)) ≡ None) (sym e) refl

  pub no_part : (members : Members) (group : ℕ) → tree_part told members group id ≡ None
  unfolding tree_part core_of
  no_part members group = by (core_for told group needed) refl
    where
      needed : List SwitchId
      needed = needed_edges told members group

      by : (o : Option SwitchId) → core_for told group (needed_edges told members group) ≡ o → option_and_then (part_under told (needed_edges told members group) id) o ≡ None
      by None e = refl
      by (Some core) e =
          under_none (place_of told id) no_place (same_switch id core) (is_alive told id core)
          (false_from_ne_true (same_switch id core) (λ is. unknown (subst (λ x. IsAmong x (tellers told)) (sym (same_is id core is)) (chosen_is_known group (needed_edges told members group) core e))))
          (Some (core_part told (needed_edges told members group) core)) (Some (aggregation_part told (needed_edges told members group) core id)) (edge_part told core)

-- a group of which nothing is known has no tree
pub no_tree : (told : Told) (members : Members) (group : ℕ) (id : SwitchId) → (IsAmong group (groups members) → ⊥) → tree_part told members group id ≡ None
unfolding tree_part core_of
no_tree told members group id unknown =
    ap (λ needed. option_and_then (part_under told needed id) (core_for told group needed)) (by (group == flood) refl)
  where
    known : (m : (SwitchId × ℕ) × Bool) → IsAmong m members → m.0.1 ≡ group → IsAmong group (groups members)
    known m h is =
        among_in_order nat_cmp exact_unsigned group (flood ∷ map (λ (x : (SwitchId × ℕ) × Bool). x.0.1) members)
        (inr (subst (λ g. IsAmong g (map (λ (x : (SwitchId × ℕ) × Bool). x.0.1) members)) is (among_mapped (λ (x : (SwitchId × ℕ) × Bool). x.0.1) m members h)))

    by : (b : Bool) → (group == flood) ≡ b → (if b then map (λ e. e.switch) (placed_edges told) else with_members members group) ≡ []
    by true e = absurd (unknown (among_in_order nat_cmp exact_unsigned group (flood ∷ map (λ (x : (SwitchId × ℕ) × Bool). x.0.1) members) (inl (sym (eqb-true group flood e)))))
    by false e =
        ap (λ (ms : Members). in_order id_cmp (map (λ m. m.0.0) ms)) (filter_none (λ (m : (SwitchId × ℕ) × Bool). (m.0.1 == group) && m.1) members (λ m h is.
        unknown (known m h (eqb-true m.0.1 group (and_parts (m.0.1 == group) m.1 is).0))))

-- What is known stays known.

module _ {B X Y : Type 0} (R : SwitchId × B → SwitchId × B → Ordering) (of : SwitchId × B → Y) where
  put_known : (es : List ((SwitchId × B) × X)) (k : SwitchId × B) (v : X) (y : Y) → IsAmong y (map (λ e. of e.0) es) → IsAmong y (map (λ e. of e.0) (insert_entry R es k v))
  put_known es k v y h =
      let at = among_map (λ (e : (SwitchId × B) × X). of e.0) y es h in
      let key = key_kept R k at.0.0 (keys_of es) (among_mapped (λ (e : (SwitchId × B) × X). e.0) at.0 es at.1) in
      let entry = among_map (λ (e : (SwitchId × B) × X). e.0) at.0.0 (insert_entry R es k v) (subst (IsAmong at.0.0) (sym (keys_inserted R es k v)) key) in
      subst (λ z. IsAmong z (map (λ (e : (SwitchId × B) × X). of e.0) (insert_entry R es k v))) (ap of entry.2 ∙ at.2)
      (among_mapped (λ (e : (SwitchId × B) × X). of e.0) entry.0 (insert_entry R es k v) entry.1)

pub tellers_stay : (view : ManagerView) (s t : SwitchId) (told : ToManager) → IsAmong t (tellers view.told) → IsAmong t (tellers (view_after view s told).told)
tellers_stay view s t (tell.Place place) h = elim (among_append t (map (λ p. p.0) view.told.places) (map (λ l. l.0.0) view.told.links) h) [
  | inl left ↦
      among_left t (map (λ p. p.0) (insert_entry id_cmp view.told.places s place)) (map (λ l. l.0.0) view.told.links)
      (subst (IsAmong t) (sym (keys_inserted id_cmp view.told.places s place)) (key_kept id_cmp s t (keys_of view.told.places) left))
  | inr right ↦ among_right t (map (λ p. p.0) (insert_entry id_cmp view.told.places s place)) (map (λ l. l.0.0) view.told.links) right
]
tellers_stay view s t (tell.Link u usable) h = elim (among_append t (map (λ p. p.0) view.told.places) (map (λ l. l.0.0) view.told.links) h) [
  | inl left ↦ among_left t (map (λ p. p.0) view.told.places) (map (λ l. l.0.0) (insert_entry link_cmp view.told.links (s, u) usable)) left
  | inr right ↦
      among_right t (map (λ p. p.0) view.told.places) (map (λ l. l.0.0) (insert_entry link_cmp view.told.links (s, u) usable))
      (put_known link_cmp (λ (k : SwitchId × SwitchId). k.0) view.told.links (s, u) usable t right)
]
tellers_stay view s t tell.PodWanted h = h
tellers_stay view s t (tell.Learned a b c) h = h
tellers_stay view s t (tell.Aged a b) h = h
tellers_stay view s t (tell.Begin epoch) h = h
tellers_stay view s t (tell.End epoch) h = h
tellers_stay view s t (tell.Trapped trapped toward numbered) h = h
tellers_stay view s t (tell.Query a b c) h = h
tellers_stay view s t (tell.Members g any) h = h

pub groups_stay : (view : ManagerView) (s : SwitchId) (group : ℕ) (told : ToManager) → IsAmong group (groups view.members) → IsAmong group (groups (view_after view s told).members)
groups_stay view s group (tell.Members g any) h =
    among_in_order nat_cmp exact_unsigned group (flood ∷ map (λ m. m.0.1) (insert_entry members_cmp view.members (s, g) any))
    (elim (among_ordered nat_cmp group (flood ∷ map (λ m. m.0.1) view.members) h) [
      | inl is ↦ inl is
      | inr later ↦ inr (put_known members_cmp (λ (k : SwitchId × ℕ). k.1) view.members (s, g) any group later)
    ])
groups_stay view s group (tell.Place place) h = h
groups_stay view s group (tell.Link u usable) h = h
groups_stay view s group tell.PodWanted h = h
groups_stay view s group (tell.Learned a b c) h = h
groups_stay view s group (tell.Aged a b) h = h
groups_stay view s group (tell.Begin epoch) h = h
groups_stay view s group (tell.End epoch) h = h
groups_stay view s group (tell.Trapped trapped toward numbered) h = h
groups_stay view s group (tell.Query a b c) h = h

-- What is sent.

pub avoids_sent : (before after : Told) (id : SwitchId) → (IsAmong id (tellers before) → IsAmong id (tellers after)) →
    then_said avoid_said id (avoid_list before id) (avoid_acts before after) ≡ avoid_list after id
avoids_sent before after id stay = by (same_avoid_list (avoid_list before id) (avoid_list after id)) refl
  where
    stays : avoid_list before id ≡ avoid_list after id → then_said avoid_said id (avoid_list before id) (avoid_acts before after) ≡ avoid_list after id
    stays same = own_stays avoid_said id (avoid_list after) (λ t. say.Avoid (avoid_list after t)) (λ t. refl) (changed before after) (avoid_list before id) same

    by : (b : Bool) → same_avoid_list (avoid_list before id) (avoid_list after id) ≡ b → then_said avoid_said id (avoid_list before id) (avoid_acts before after) ≡ avoid_list after id
    by true e = stays ((avoid_lists_alike (avoid_list before id) (avoid_list after id)).0 e)
    by false e = elim (among_or_not id (tellers after)) [
      | inl known ↦
          own_said avoid_said id (avoid_list after) (λ t. say.Avoid (avoid_list after t)) (λ t. refl) (changed before after) (avoid_list before id)
          (among_filtered (λ s. not (same_avoid_list (avoid_list before s) (avoid_list after s))) id (switches after) (among_switches after id known) (ap not e))
      | inr unknown ↦ stays (no_list before id (λ h. unknown (stay h)) ∙ sym (no_list after id unknown))
    ]

module _ (before after : ManagerView) (id : SwitchId) (stay : IsAmong id (tellers before.told) → IsAmong id (tellers after.told)) (group : ℕ)
    (group_stays : IsAmong group (groups before.members) → IsAmong group (groups after.members)) where
  abbrev was : Option TreePart
  was = part_in before group id

  abbrev is_now : Option TreePart
  is_now = part_in after group id

  abbrev sent : Option TreePart → List ManagerAct → Option TreePart
  sent x acts = then_said (part_said group) id x acts

  said_of : (h : ℕ) → h ≡ group → (t : SwitchId) → part_said group (say.Tree h (part_in after h t)) ≡ Some (part_in after group t)
  said_of h is t = ap (λ (b : Bool). if b then Some (part_in after h t) else None) (eq-eqb h group is) ∙ ap (λ g. Some (part_in after g t)) is

  -- the words of this group
  own_stay : (h : ℕ) → h ≡ group → (x : Option TreePart) → x ≡ is_now → sent x (tree_acts_of before after h) ≡ is_now
  own_stay h is x same =
      own_stays (part_said group) id (part_in after group) (λ t. say.Tree h (part_in after h t)) (said_of h is) (changed_of_group before after h) x same

  own_sent : (h : ℕ) → h ≡ group → sent was (tree_acts_of before after h) ≡ is_now
  own_sent h is = by (same_part was is_now) refl
    where
      by : (b : Bool) → same_part was is_now ≡ b → sent was (tree_acts_of before after h) ≡ is_now
      by true e = own_stay h is was ((parts_alike was is_now).0 e)
      by false e = elim (among_or_not id (tellers after.told)) [
        | inl known ↦
            own_said (part_said group) id (part_in after group) (λ t. say.Tree h (part_in after h t)) (said_of h is) (changed_of_group before after h) was
            (among_filtered (λ s. not (same_part (part_in before h s) (part_in after h s))) id (switches after.told) (among_switches after.told id known)
            (ap (λ g. not (same_part (part_in before g id) (part_in after g id))) is ∙ ap not e))
        | inr unknown ↦ own_stay h is was (no_part before.told id (λ k. unknown (stay k)) before.members group ∙ sym (no_part after.told id unknown after.members group))
      ]

  -- the words of another group
  others_silent : (h : ℕ) → (h == group) ≡ false → (ts : List SwitchId) → AllByRecursion (IsSilent (part_said group) id) (map (λ t. Say t (say.Tree h (part_in after h t))) ts)
  others_silent h e [] = tt
  others_silent h e (t ∷ ts) = (ap (λ (b : Bool). if b then Some (part_in after h t) else None) e, others_silent h e ts)

  other_sent : (h : ℕ) → (h == group) ≡ false → (x : Option TreePart) → sent x (tree_acts_of before after h) ≡ x
  other_sent h e x = then_silent (part_said group) id x (tree_acts_of before after h) (others_silent h e (changed_of_group before after h))

  trees_stay : (gs : List ℕ) (x : Option TreePart) → x ≡ is_now → sent x (flat_map (tree_acts_of before after) gs) ≡ is_now
  trees_stay [] x same = same
  trees_stay (g ∷ gs) x same = then_more (part_said group) id x (tree_acts_of before after g) (flat_map (tree_acts_of before after) gs) ∙ trees_stay gs _ (by (g == group) refl)
    where
      by : (b : Bool) → (g == group) ≡ b → sent x (tree_acts_of before after g) ≡ is_now
      by true e = own_stay g (eqb-true g group e) x same
      by false e = other_sent g e x ∙ same

  trees_told : (gs : List ℕ) → IsAmong group gs → sent was (flat_map (tree_acts_of before after) gs) ≡ is_now
  trees_told [] h = absurd h
  trees_told (g ∷ gs) h =
      then_more (part_said group) id was (tree_acts_of before after g) (flat_map (tree_acts_of before after) gs) ∙ by (λ k. trees_told gs k) (g == group) refl
    where
      by : (IsAmong group gs → sent was (flat_map (tree_acts_of before after) gs) ≡ is_now) → (b : Bool) → (g == group) ≡ b →
          sent (sent was (tree_acts_of before after g)) (flat_map (tree_acts_of before after) gs) ≡ is_now
      by rest true e = trees_stay gs _ (own_sent g (eqb-true g group e))
      by rest false e = ap (λ x. sent x (flat_map (tree_acts_of before after) gs)) (other_sent g e was) ∙ elim h [
        | inl is ↦ absurd (true≢false (sym (eq-eqb g group is) ∙ e))
        | inr later ↦ rest later
      ]

  pub trees_sent : sent was (tree_acts before after) ≡ is_now
  trees_sent = elim (number_or_not group (groups after.members)) [
    | inl known ↦ trees_told (groups after.members) known
    | inr unknown ↦
        trees_stay (groups after.members) was
        (no_tree before.told before.members group id (λ h. unknown (group_stays h)) ∙ sym (no_tree after.told after.members group id unknown))
  ]

  -- and lists say nothing of parts
  avoids_silent : (ts : List SwitchId) → AllByRecursion (IsSilent (part_said group) id) (map (λ t. Say t (say.Avoid (avoid_list after.told t))) ts)
  avoids_silent [] = tt
  avoids_silent (t ∷ ts) = (refl, avoids_silent ts)

  pub parts_of_avoids : (x : Option TreePart) → sent x (avoid_acts before.told after.told) ≡ x
  parts_of_avoids x = then_silent (part_said group) id x (avoid_acts before.told after.told) (avoids_silent (changed before.told after.told))

-- nor parts of lists
module _ (before after : ManagerView) (id : SwitchId) where
  parts_silent : (g : ℕ) (ts : List SwitchId) → AllByRecursion (IsSilent avoid_said id) (map (λ t. Say t (say.Tree g (part_in after g t))) ts)
  parts_silent g [] = tt
  parts_silent g (t ∷ ts) = (refl, parts_silent g ts)

  trees_silent : (gs : List ℕ) (x : List (SwitchId × ℕ × ℕ)) → then_said avoid_said id x (flat_map (tree_acts_of before after) gs) ≡ x
  trees_silent [] x = refl
  trees_silent (g ∷ gs) x =
      then_more avoid_said id x (tree_acts_of before after g) (flat_map (tree_acts_of before after) gs)
      ∙ trees_silent gs (then_said avoid_said id x (tree_acts_of before after g))
      ∙ then_silent avoid_said id x (tree_acts_of before after g) (parts_silent g (changed_of_group before after g))

  pub avoids_of_trees : (x : List (SwitchId × ℕ × ℕ)) → then_said avoid_said id x (tree_acts before after) ≡ x
  avoids_of_trees x = trees_silent (groups after.members) x
