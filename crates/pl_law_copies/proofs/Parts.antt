-- The parts that the manager hands out: by true levels and members each part leads up and down by one level.
use Rattle.std.proofs.Common.{◌≡◌, ℕ, zero, suc, ◌==◌, ◌&&◌, ◌||◌, Bool, true, false, cond, List, [], ◌∷◌, map, Option, None, Some, slice_get, unwrap_or, refl, sym, ap, ◌∙◌, subst, arith, inl, inr}
use Rattle.std.specs.List.{AllByRecursion, cons_option, filter, filter_map, find, list_any}
use Rattle.std.specs.Option.{option_and_then, option_map}
use Rattle.std.specs.Ordering.{match_ordering}
use Rattle.std.specs.declared.cmp.Ordering.{Ordering}
use Rattle.std.specs.declared.cmp.Ordering.TheVariants.{Equal, Greater, Less}
use Rattle.std.specs.Cmp.{Equal-is}
use Rattle.std.specs.BTreeMap.{is_at}
use Rattle.std.specs.BTreeSet.{insert_key}
use Rattle.std.specs.Map.{lookup}
use Rattle.std.proofs.lemmas.Option.{same_Some}
use Rattle.std.proofs.lemmas.Bool.{and_parts, cases_Bool, cond-false, cond-true, cond_both, eq-eqb, eqb-true, false≢true, or_cases, or_left, or_right}
use Rattle.pl_frame.specs.declared.address.SwitchId.{SwitchId}
use Rattle.pl_wiring.specs.Plan.{Plan}
use Rattle.pl_layouts.specs.declared.place.Place.{Place}
use Rattle.pl_layouts.specs.Equality.{same_switch}
use Rattle.pl_layouts.specs.Memberships.{flood}
use Rattle.pl_layouts.specs.Placement.{is_known, nowhere}
use Rattle.pl_node.specs.ManagerViews.{Members, PlacedEdge, Told, alive_at_level, alive_neighbours, edge_at, edge_with, has_level, has_pod, id_cmp, in_order, is_alive, place_of, placed_edges, switches, value_at, with_members}
use Rattle.pl_node.specs.Trees.{aggregation_part, core_for, core_of, core_part, cores, edge_part, largest, needed_edges, part_under, reach, serves, tree_part}
use Rattle.pl_manager_rule.proofs.Exports.{id_exact, same_is}
use Rattle.pl_law_copies.specs.Trees.{AreTrueMembers, IsTruePart}
use Rattle.pl_journal.specs.Flights.{level_of}

-- a known level is the level of the switch
abbrev pub IsLevel : ℕ → Place → Type 0
IsLevel r place = (x : ℕ) → place.level ≡ Some x → x ≡ r

-- so it is where the manager knows one, by the id of the switch
abbrev pub HasLevel : Plan → SwitchId × Place → Type 0
HasLevel plan entry = (t : ℕ) → slice_get plan.ids t ≡ Some entry.0 → IsLevel (level_of plan.k t) entry.1

-- Lists.

pub any_filter : {T : Type 0} (p q : T → Bool) (xs : List T) → list_any p (filter q xs) ≡ true → list_any p xs ≡ true
any_filter p q [] is = is
any_filter p q (x ∷ xs) is = by_test (q x) (any_filter p q xs) is
  where
    by_test : (b : Bool) → (list_any p (filter q xs) ≡ true → list_any p xs ≡ true) → list_any p (cond b (x ∷ filter q xs) (filter q xs)) ≡ true → (p x || list_any p xs) ≡ true
    by_test true rest e = elim (or_cases (p x) (list_any p (filter q xs)) e) [ inl here ↦ or_left (p x) (list_any p xs) here | inr later ↦ or_right (p x) (list_any p xs) (rest later) ]
    by_test false rest e = or_right (p x) (list_any p xs) (rest e)

any_inserted : {K : Type 0} (cmp : K → K → Ordering) (p : K → Bool) (xs : List K) (k : K) → list_any p (insert_key cmp xs k) ≡ true → (p k || list_any p xs) ≡ true
any_inserted cmp p [] k is = is
any_inserted cmp p (x ∷ xs) k is = by_order (cmp k x) (any_inserted cmp p xs k) is
  where
    by_order : (o : Ordering) → (list_any p (insert_key cmp xs k) ≡ true → (p k || list_any p xs) ≡ true) →
        list_any p (match_ordering o (k ∷ x ∷ xs) (x ∷ xs) (x ∷ insert_key cmp xs k)) ≡ true → (p k || (p x || list_any p xs)) ≡ true
    by_order Less rest e = e
    by_order Equal rest e = or_right (p k) (p x || list_any p xs) e
    by_order Greater rest e = elim (or_cases (p x) (list_any p (insert_key cmp xs k)) e) [
      | inl here ↦ or_right (p k) (p x || list_any p xs) (or_left (p x) (list_any p xs) here)
      | inr later ↦ elim (or_cases (p k) (list_any p xs) (rest later)) [
        | inl new ↦ or_left (p k) (p x || list_any p xs) new
        | inr old ↦ or_right (p k) (p x || list_any p xs) (or_right (p x) (list_any p xs) old)
      ]
    ]

any_ordered : {K : Type 0} (cmp : K → K → Ordering) (p : K → Bool) (xs : List K) → list_any p (in_order cmp xs) ≡ true → list_any p xs ≡ true
any_ordered cmp p [] is = is
any_ordered cmp p (x ∷ xs) is = elim (or_cases (p x) (list_any p (in_order cmp xs)) (any_inserted cmp p (in_order cmp xs) x is)) [
  | inl here ↦ or_left (p x) (list_any p xs) here
  | inr later ↦ or_right (p x) (list_any p xs) (any_ordered cmp p xs later)
]

got_filtered : {T : Type 0} (p : T → Bool) (xs : List T) (i : ℕ) (x : T) → slice_get (filter p xs) i ≡ Some x → p x ≡ true
got_filtered p [] i x is = absurd (cc)
got_filtered p (y ∷ ys) i x is = by_test (p y) refl (got_filtered p ys) i is
  where
    by_test : (b : Bool) → p y ≡ b → ((i : ℕ) (x : _) → slice_get (filter p ys) i ≡ Some x → p x ≡ true) → (i : ℕ) → slice_get (cond b (y ∷ filter p ys) (filter p ys)) i ≡ Some x → p x ≡ true
    by_test true here rest zero e = (let same : y ≡ x = cc in ap p (sym same) ∙ here)
    by_test true here rest (suc i) e = rest i x e
    by_test false here rest i e = rest i x e

got_earlier : {T : Type 0} (p : T → Bool) (xs : List T) (i : ℕ) (x : T) → slice_get (filter p xs) i ≡ Some x → (j : ℕ) × (slice_get xs j ≡ Some x)
got_earlier p [] i x is = absurd (cc)
got_earlier {T} p (y ∷ ys) i x is = by_test (p y) (λ i e. got_earlier p ys i x e) i is
  where
    by_test : (b : Bool) → ((i : ℕ) → slice_get (filter p ys) i ≡ Some x → (j : ℕ) × (slice_get ys j ≡ Some x)) → (i : ℕ) →
        slice_get (cond b (y ∷ filter p ys) (filter p ys)) i ≡ Some x → (j : ℕ) × (slice_get (y ∷ ys) j ≡ Some x)
    by_test true rest zero e = (zero, e)
    by_test true rest (suc i) e = (let there = rest i e in (suc there.0, there.1))
    by_test false rest i e = (let there = rest i e in (suc there.0, there.1))

any_found : (p : SwitchId → Bool) (xs : List SwitchId) (x : SwitchId) → find p xs ≡ Some x → list_any (λ (d : SwitchId). d.0 == x.0) xs ≡ true
any_found p [] x is = absurd (cc)
any_found p (y ∷ ys) x is = elim (cases_Bool (p y)) [
  | inl here ↦ (let same : y ≡ x = same_Some y x (sym (cond-true (p y) (Some y) (find p ys) here) ∙ is) in
      or_left (y.0 == x.0) (list_any (λ (d : SwitchId). d.0 == x.0) ys) (eq-eqb y.0 x.0 (ap (λ (d : SwitchId). d.0) same)))
  | inr other ↦ or_right (y.0 == x.0) (list_any (λ (d : SwitchId). d.0 == x.0) ys) (any_found p ys x (sym (cond-false (p y) (Some y) (find p ys) other) ∙ is))
]

-- what is among those of a level has it
any_level : (told : Told) (n : ℕ) (xs : List SwitchId) (x : SwitchId) → list_any (λ (d : SwitchId). d.0 == x.0) (filter (λ u. has_level told u n) xs) ≡ true →
    has_level told x n ≡ true
any_level told n [] x is = absurd (false≢true is)
any_level told n (y ∷ ys) x is = by_test (has_level told y n) refl (any_level told n ys x) is
  where
    named : List SwitchId → Bool
    named ids = list_any (λ (d : SwitchId). d.0 == x.0) ids

    rest : List SwitchId
    rest = filter (λ u. has_level told u n) ys

    by_test : (b : Bool) → has_level told y n ≡ b → (named rest ≡ true → has_level told x n ≡ true) → named (cond b (y ∷ rest) rest) ≡ true → has_level told x n ≡ true
    by_test false has later e = later e
    by_test true has later e = elim (or_cases (y.0 == x.0) (named rest) e) [
      | inl here ↦ ap (λ z. has_level told z n) (sym (same_is y x here)) ∙ has
      | inr behind ↦ later behind
    ]

-- What the manager knows of one switch.

pub found_true : {K X : Type 0} (P : K × X → Type 0) (test : K → Bool) (entries : List (K × X)) → AllByRecursion P entries → (x : X) → lookup test entries ≡ Some x →
    (k : K) × (test k ≡ true) × P (k, x)
found_true P test [] all x is = absurd (cc)
found_true P test (e ∷ es) all x is = elim (cases_Bool (test e.0)) [
  | inl here ↦ (let same : e.1 ≡ x = same_Some e.1 x (sym (cond-true (test e.0) (Some e.1) (lookup test es) here) ∙ is) in
      (e.0, here, subst (λ y. P (e.0, y)) same all.0))
  | inr other ↦ found_true P test es all.1 x (sym (cond-false (test e.0) (Some e.1) (lookup test es) other) ∙ is)
]

module _ (plan : Plan) (told : Told) (places : AllByRecursion (HasLevel plan) told.places) where
  pub place_true : (t : ℕ) (s : SwitchId) → slice_get plan.ids t ≡ Some s → IsLevel (level_of plan.k t) (place_of told s)
  place_true t s named = by_found (value_at id_cmp told.places s) refl
    where
      by_found : (o : Option Place) → value_at id_cmp told.places s ≡ o → IsLevel (level_of plan.k t) (unwrap_or o nowhere)
      by_found None is x level = absurd (cc)
      by_found (Some place) is x level =
          let found = found_true (HasLevel plan) (is_at (id_cmp s)) told.places places place is in
          let same : s ≡ found.0 = id_exact s found.0 ((Equal-is (id_cmp s found.0)).0 found.1) in
          found.2 t (named ∙ ap Some same) x level

  level_true : (t : ℕ) (s : SwitchId) (n : ℕ) → slice_get plan.ids t ≡ Some s → has_level told s n ≡ true → n ≡ level_of plan.k t
  level_true t s n named has = by_level (place_of told s).level refl has
    where
      by_level : (o : Option ℕ) → (place_of told s).level ≡ o → is_known o n ≡ true → n ≡ level_of plan.k t
      by_level None is known = absurd (false≢true known)
      by_level (Some m) is known = sym (eqb-true m n known) ∙ place_true t s named m is

  -- a placed edge switch is one
  edge_true : (t : ℕ) (id s : SwitchId) (e : PlacedEdge) → slice_get plan.ids t ≡ Some id → edge_at s (place_of told s) ≡ Some e → (e.switch.0 == id.0) ≡ true → level_of plan.k t ≡ 0
  edge_true t id s e named is same = by_parts (place_of told s).level (place_of told s).position (place_of told s).pod refl is
    where
      by_parts : (level position pod : Option ℕ) → (place_of told s).level ≡ level → edge_with s level position pod ≡ Some e → level_of plan.k t ≡ 0
      by_parts None position pod at found = absurd (cc)
      by_parts (Some n) None pod at found = absurd (cc)
      by_parts (Some n) (Some p) None at found = absurd (cc)
      by_parts (Some n) (Some p) (Some q) at found = elim (cases_Bool (n == 0)) [
        | inl zero_level ↦
            let made : PlacedEdge = record { switch = s; pod = q; position = p } in
            let one : made ≡ e = same_Some made e (sym (cond-true (n == 0) (Some made) None zero_level) ∙ found) in
            let ids : s ≡ id = same_is s id (ap (λ (x : PlacedEdge). x.switch.0 == id.0) one ∙ same) in
            sym (place_true t s (named ∙ ap Some (sym ids)) n at) ∙ eqb-true n 0 zero_level
        | inr other ↦ (let made : PlacedEdge = record { switch = s; pod = q; position = p } in let none = cond-false (n == 0) (Some made) None other in absurd (cc))
      ]

  -- it is named by its own id
  edge_named : (s : SwitchId) (level position pod : Option ℕ) (e : PlacedEdge) → edge_with s level position pod ≡ Some e → e.switch ≡ s
  edge_named s None position pod e is = absurd (cc)
  edge_named s (Some n) None pod e is = absurd (cc)
  edge_named s (Some n) (Some p) None e is = absurd (cc)
  edge_named s (Some n) (Some p) (Some q) e is =
      let made : PlacedEdge = record { switch = s; pod = q; position = p } in
      elim (cases_Bool (n == 0)) [
        | inl edge ↦ ap (λ (x : PlacedEdge). x.switch) (sym (same_Some made e (sym (cond-true (n == 0) (Some made) None edge) ∙ is)))
        | inr other ↦ (let none = cond-false (n == 0) (Some made) None other in absurd (cc))
      ]

  edge_itself : (t : ℕ) (id : SwitchId) (e : PlacedEdge) → slice_get plan.ids t ≡ Some id → edge_at id (place_of told id) ≡ Some e → level_of plan.k t ≡ 0
  edge_itself t id e named is =
      let own = edge_named id (place_of told id).level (place_of told id).position (place_of told id).pod e is in
      edge_true t id id e named is (eq-eqb e.switch.0 id.0 (ap (λ (d : SwitchId). d.0) own))

  placed_true : (t : ℕ) (id : SwitchId) → slice_get plan.ids t ≡ Some id → (ids : List SwitchId) →
      list_any (λ (d : SwitchId). d.0 == id.0) (map (λ (e : PlacedEdge). e.switch) (filter_map (λ s. edge_at s (place_of told s)) ids)) ≡ true → level_of plan.k t ≡ 0
  placed_true t id named [] is = absurd (false≢true is)
  placed_true t id named (s ∷ ids) is = by_edge (edge_at s (place_of told s)) refl (placed_true t id named ids) is
    where
      rest : List PlacedEdge
      rest = filter_map (λ s. edge_at s (place_of told s)) ids

      named_in : List PlacedEdge → Bool
      named_in edges = list_any (λ (d : SwitchId). d.0 == id.0) (map (λ (e : PlacedEdge). e.switch) edges)

      by_edge : (o : Option PlacedEdge) → edge_at s (place_of told s) ≡ o → (named_in rest ≡ true → level_of plan.k t ≡ 0) → named_in (cons_option o rest) ≡ true → level_of plan.k t ≡ 0
      by_edge None at later e = later e
      by_edge (Some edge) at later e = elim (or_cases (edge.switch.0 == id.0) (named_in rest) e) [
        | inl here ↦ edge_true t id s edge named at here
        | inr behind ↦ later behind
      ]

members_true : (plan : Plan) (members : Members) → AllByRecursion (AreTrueMembers plan) members → (group t : ℕ) (id : SwitchId) → slice_get plan.ids t ≡ Some id →
    list_any (λ (d : SwitchId). d.0 == id.0) (map (λ (m : (SwitchId × ℕ) × Bool). m.0.0) (filter (λ (m : (SwitchId × ℕ) × Bool). m.0.1 == group && m.1) members)) ≡ true → level_of plan.k t ≡ 0
members_true plan [] all group t id named is = absurd (false≢true is)
members_true plan (m ∷ members) all group t id named is =
    by_test (m.0.1 == group && m.1) refl (members_true plan members all.1 group t id named) is
  where
    rest : List ((SwitchId × ℕ) × Bool)
    rest = filter (λ (m : (SwitchId × ℕ) × Bool). m.0.1 == group && m.1) members

    named_in : List ((SwitchId × ℕ) × Bool) → Bool
    named_in entries = list_any (λ (d : SwitchId). d.0 == id.0) (map (λ (m : (SwitchId × ℕ) × Bool). m.0.0) entries)

    by_test : (b : Bool) → (m.0.1 == group && m.1) ≡ b → (named_in rest ≡ true → level_of plan.k t ≡ 0) → named_in (cond b (m ∷ rest) rest) ≡ true → level_of plan.k t ≡ 0
    by_test false here later e = later e
    by_test true here later e = elim (or_cases (m.0.0.0 == id.0) (named_in rest) e) [
      | inl own ↦ all.0 t (named ∙ ap Some (sym (same_is m.0.0 id own)))
      | inr behind ↦ later behind
    ]

module _ (plan : Plan) (told : Told) (members : Members) (places : AllByRecursion (HasLevel plan) told.places) (all : AllByRecursion (AreTrueMembers plan) members) where
  needed_true : (group t : ℕ) (id : SwitchId) → slice_get plan.ids t ≡ Some id → list_any (λ (d : SwitchId). d.0 == id.0) (needed_edges told members group) ≡ true → level_of plan.k t ≡ 0
  needed_true group t id named =
      cond_both (group == flood) (map (λ (e : PlacedEdge). e.switch) (placed_edges told)) (with_members members group)
      (λ ids. list_any (λ (d : SwitchId). d.0 == id.0) ids ≡ true → level_of plan.k t ≡ 0)
      (λ flooded is. placed_true plan told places t id named (switches told) is)
      (λ routed is. members_true plan members all group t id named (any_ordered id_cmp (λ d. d.0 == id.0) _ is))

  -- the core switch of a tree told that it is one
  core_true : (needed : List SwitchId) (group : ℕ) (core : SwitchId) → core_for told group needed ≡ Some core → has_level told core 2 ≡ true
  core_true [] group core is = absurd (cc)
  core_true (e ∷ needed) group core is =
      let best : SwitchId → Bool = λ c. reach told (e ∷ needed) c == largest (map (reach told (e ∷ needed)) (cores told)) in
      let among = got_earlier best (cores told) _ core is in
      got_filtered (λ c. has_level told c 2) (switches told) among.0 core among.1

  module _ (needed : List SwitchId) (edges : (t : ℕ) (id : SwitchId) → slice_get plan.ids t ≡ Some id → list_any (λ (d : SwitchId). d.0 == id.0) needed ≡ true → level_of plan.k t ≡ 0)
      (s : ℕ) (id core : SwitchId) (named : slice_get plan.ids s ≡ Some id) (is_core : has_level told core 2 ≡ true) where
    core_leads : same_switch id core ≡ true → IsTruePart plan (level_of plan.k s) (Some (core_part told needed core))
    core_leads itself =
        let two = level_true plan told places s id 2 named (subst (λ c. has_level told c 2 ≡ true) (sym (same_is id core itself)) is_core) in
        record {
          up = λ t d named_d above. absurd (cc);
          down = λ t d named_d below. (let one = level_true plan told places t d 1 named_d (any_level told 1 (alive_neighbours told core) d
              (any_filter (λ x. x.0 == d.0) (serves told needed) (alive_at_level told core 1) below)) in omega (arith, one, two));
        }

    aggregation_leads : (has_level told id 1 && is_alive told id core) ≡ true → IsTruePart plan (level_of plan.k s) (Some (aggregation_part told needed core id))
    aggregation_leads is =
        let one = level_true plan told places s id 1 named (and_parts (has_level told id 1) (is_alive told id core) is).0 in
        record {
          up = λ t d named_d above. (let two = level_true plan told places t d 2 named_d (subst (λ c. has_level told c 2 ≡ true) (same_Some core d above) is_core) in
              omega (arith, one, two));
          down = λ t d named_d below. (let edge = edges t d named_d (any_filter (λ x. x.0 == d.0) (is_alive told id) needed below) in omega (arith, one, edge));
        }

    edge_leads : (o : Option PlacedEdge) → edge_at id (place_of told id) ≡ o → IsTruePart plan (level_of plan.k s) (option_map (edge_part told core) o)
    edge_leads None is = tt
    edge_leads (Some e) is =
        let edge = edge_itself plan told places s id e named is in
        record {
          up = λ t d named_d above. (let one = level_true plan told places t d 1 named_d (any_level told 1 (alive_neighbours told e.switch) d
              (any_found (λ a. has_pod told a e.pod && is_alive told a core) (alive_at_level told e.switch 1) d above)) in omega (arith, one, edge));
          down = λ t d named_d below. absurd (false≢true below);
        }

    under_true : IsTruePart plan (level_of plan.k s) (part_under told needed id core)
    under_true =
        cond_both (same_switch id core) (Some (core_part told needed core)) _ (IsTruePart plan (level_of plan.k s)) core_leads
        (λ other. cond_both (has_level told id 1 && is_alive told id core) (Some (aggregation_part told needed core id)) _ (IsTruePart plan (level_of plan.k s)) aggregation_leads
        (λ no_aggregation. edge_leads (edge_at id (place_of told id)) refl))

  pub part_true : (group s : ℕ) (id : SwitchId) → slice_get plan.ids s ≡ Some id → IsTruePart plan (level_of plan.k s) (tree_part told members group id)
  unfolding tree_part core_of
  part_true group s id named = by_core (core_for told group (needed_edges told members group)) refl
    where
      by_core : (o : Option SwitchId) → core_for told group (needed_edges told members group) ≡ o →
          IsTruePart plan (level_of plan.k s) (option_and_then (part_under told (needed_edges told members group) id) o)
      by_core None is = tt
      by_core (Some core) is = under_true (needed_edges told members group) (needed_true group) s id core named (core_true (needed_edges told members group) group core is)
