-- The parts of a tree, by what each switch serves.
use Rattle.std.proofs.Common.{◌≡◌, ℕ, ◌+◌, ◌++◌, take, drop, append_assoc, take-append-drop, ◌%◌, ◌==◌, ◌&&◌, ◌||◌, not, Bool, true, false, cond, List, [], ◌∷◌, length, map, Option, Some, None, refl, sym, ap, ◌∙◌}
use Rattle.std.specs.Prelude.{unwrap_or}
use Rattle.std.specs.List.{filter, find, list_any}
use Rattle.std.specs.Option.{option_and_then, option_map}
use Rattle.std.specs.Map.{keys_of}
use Rattle.std.specs.BTreeMap.{is_at}
use Rattle.std.proofs.Math.Dec.{eqb-suc-zero}
use Rattle.std.proofs.lemmas.Bool.{false≢true}
use Rattle.pl_bits.specs.Rows.{trues}
use Rattle.pl_frame.specs.declared.address.SwitchId.{SwitchId}
use Rattle.pl_layouts.specs.declared.place.Place.{Place}
use Rattle.pl_layouts.specs.Equality.{same_switch}
use Rattle.pl_layouts.specs.Placement.{is_known, nowhere}
use Rattle.pl_layouts.proofs.Exports.{switch_itself}
use Rattle.pl_node.specs.declared.messages.TreePart.{TreePart}
use Rattle.pl_node.specs.ManagerViews.{Members, Told, alive_at_level, alive_neighbours, edge_at, has_level, id_cmp, is_alive, neighbours, place_of, switches, tellers, value_at}
use Rattle.pl_node.specs.Trees.{aggregation_part, best_cores, core_for, core_of, core_part, cores, edge_part, largest, needed_edges, part_under, reach, serves, tree_part}
use Rattle.pl_node.proofs.Exports.{among_filter, among_in_order, among_left, any_among, got_among, IsAmong}
use Rattle.pl_manager_rule.proofs.Exports.{found_key, id_exact, switch_turned}
use Rattle.pl_groups.specs.Rooted.{IsRoot}
use Rattle.pl_groups.specs.Serving.{many_served, part_of_told, served_at}
use Rattle.pl_groups.specs.declared.root.Root.{Root}
use Rattle.pl_groups.proofs.Reached.{is_adjacent}
use Rattle.pl_groups.proofs.Edges.{is_here, served_by_neighbours}
use Rattle.pl_groups.proofs.Rows.{count_is}

-- ---- lists
filter_twice : {X : Type 0} (p q : X → Bool) (xs : List X) → filter q (filter p xs) ≡ filter (λ x. p x && q x) xs
filter_twice p q [] = refl
filter_twice p q (x ∷ xs) = by (filter_twice p q xs) (p x)
  where
    by : filter q (filter p xs) ≡ filter (λ y. p y && q y) xs → (b : Bool) →
        filter q (cond b (x ∷ filter p xs) (filter p xs)) ≡ cond (b && q x) (x ∷ filter (λ y. p y && q y) xs) (filter (λ y. p y && q y) xs)
    by rest true = λ i. cond (q x) (x ∷ rest i) (rest i)
    by rest false = rest

find_filtered : {X : Type 0} (p q : X → Bool) (xs : List X) → find q (filter p xs) ≡ find (λ x. p x && q x) xs
find_filtered p q [] = refl
find_filtered p q (x ∷ xs) = by (find_filtered p q xs) (p x)
  where
    by : find q (filter p xs) ≡ find (λ y. p y && q y) xs → (b : Bool) →
        find q (cond b (x ∷ filter p xs) (filter p xs)) ≡ cond (b && q x) (Some x) (find (λ y. p y && q y) xs)
    by rest true = λ i. cond (q x) (Some x) (rest i)
    by rest false = rest

none_empty : {X : Type 0} (x : X) (xs : List X) → true ≡ not (length (x ∷ xs) == 0)
none_empty x xs = sym (ap not (eqb-suc-zero (length xs)))

any_kept : {X : Type 0} (p : X → Bool) (xs : List X) → list_any p xs ≡ not (length (filter p xs) == 0)
any_kept p [] = refl
any_kept p (x ∷ xs) = by (any_kept p xs) (p x)
  where
    by : list_any p xs ≡ not (length (filter p xs) == 0) → (b : Bool) → (b || list_any p xs) ≡ not (length (cond b (x ∷ filter p xs) (filter p xs)) == 0)
    by rest true = none_empty x (filter p xs)
    by rest false = rest

-- ---- the parts
pub adjacent_at_level : (told : Told) (s : SwitchId) → alive_at_level told s 1 ≡ filter (is_adjacent told s) (neighbours told s)
adjacent_at_level told s = filter_twice (is_alive told s) (λ u. has_level told u 1) (neighbours told s)

pub core_down : (told : Told) (needed : List SwitchId) (core : SwitchId) →
    filter (λ a. is_adjacent told core a && not (many_served (served_at told needed a) == 0)) (neighbours told core)
    ≡ filter (serves told needed) (alive_at_level told core 1)
core_down told needed core =
    (λ i. filter (λ a. serving a i) (neighbours told core))
    ∙ sym (filter_twice (is_adjacent told core) (serves told needed) (neighbours told core))
    ∙ ap (filter (serves told needed)) (sym (adjacent_at_level told core))
  where
    counted : (a : SwitchId) → not (trues (map (is_alive told a) needed) == 0) ≡ serves told needed a
    counted a = ap (λ n. not (n == 0)) (count_is (is_alive told a) needed) ∙ sym (any_kept (is_alive told a) needed)

    serving : (a : SwitchId) → (is_adjacent told core a && not (many_served (served_at told needed a) == 0)) ≡ (is_adjacent told core a && serves told needed a)
    serving a = by (is_alive told core a) (has_level told a 1)
      where
        by : (alive level : Bool) → ((alive && level) && not (many_served (cond level (Some (map (is_alive told a) needed)) None) == 0))
            ≡ ((alive && level) && serves told needed a)
        by false level = refl
        by true false = refl
        by true true = counted a

pub up_found : (told : Told) (s : SwitchId) (test : SwitchId → Bool) →
    find (λ a. has_level told a 1 && test a) (alive_neighbours told s) ≡ find test (alive_at_level told s 1)
up_found told s test = sym (find_filtered (λ a. has_level told a 1) test (alive_neighbours told s))

-- ---- who is linked to the core switch
pub linked_is : (told : Told) (root : Root) (s : SwitchId) → IsRoot told root → list_any (is_at (id_cmp s)) root.near ≡ is_alive told s root.core
linked_is told root s is =
    ap (list_any (is_at (id_cmp s))) is
    ∙ (λ i. list_any (λ u. (is_here s u ∙ switch_turned u s) i) (alive_neighbours told root.core))
    ∙ served_by_neighbours told root.core s

-- ---- the part of one switch, by what it is
module _ (told : Told) (needed : List SwitchId) (s core : SwitchId) (other : same_switch s core ≡ false) where
  pub of_aggregation : (has_level told s 1 && is_alive told s core) ≡ true → Some (aggregation_part told needed core s) ≡ part_under told needed s core
  of_aggregation under = sym (by other under)
    where
      by : {a b : Bool} → a ≡ false → b ≡ true →
          cond a (Some (core_part told needed core)) (cond b (Some (aggregation_part told needed core s)) (option_map (edge_part told core) (edge_at s (place_of told s))))
          ≡ Some (aggregation_part told needed core s)
      by e f = λ i. cond (e i) (Some (core_part told needed core)) (cond (f i) (Some (aggregation_part told needed core s)) (option_map (edge_part told core) (edge_at s (place_of told s))))

  pub of_edge : (has_level told s 1 && is_alive told s core) ≡ false → option_map (edge_part told core) (edge_at s (place_of told s)) ≡ part_under told needed s core
  of_edge under = sym (by other under)
    where
      by : {a b : Bool} → a ≡ false → b ≡ false →
          cond a (Some (core_part told needed core)) (cond b (Some (aggregation_part told needed core s)) (option_map (edge_part told core) (edge_at s (place_of told s))))
          ≡ option_map (edge_part told core) (edge_at s (place_of told s))
      by e f = λ i. cond (e i) (Some (core_part told needed core)) (cond (f i) (Some (aggregation_part told needed core s)) (option_map (edge_part told core) (edge_at s (place_of told s))))

-- ---- a loop that looks for the first
found_here : {X : Type 0} (p : X → Bool) (xs : List X) (x : X) (ys : List X) → find p xs ≡ None → p x ≡ true → find p (xs ++ x ∷ ys) ≡ Some x
found_here p [] x ys none is = ap (λ b. cond b (Some x) (find p ys)) is
found_here p (z ∷ xs) x ys none is = by (λ k. found_here p xs x ys k is) (p z) none
  where
    by : (find p xs ≡ None → find p (xs ++ x ∷ ys) ≡ Some x) → (b : Bool) → cond b (Some z) (find p xs) ≡ None →
        cond b (Some z) (find p (xs ++ x ∷ ys)) ≡ Some x
    by rest true k = absurd (cc)
    by rest false k = rest k

pub found_next : {X : Type 0} (p : X → Bool) (items : List X) (i : ℕ) (x : X) → take (i + 1) items ≡ take i items ++ x ∷ [] →
    find p (take i items) ≡ None → p x ≡ true → find p items ≡ Some x
found_next p items i x more none is =
    let rest = drop (i + 1) items in
    ap (find p) (sym (take-append-drop (i + 1) items)) ∙ ap (λ xs. find p (xs ++ rest)) more
    ∙ ap (find p) (append_assoc (take i items) (x ∷ []) rest) ∙ found_here p (take i items) x rest none is

pub none_next : {X : Type 0} (p : X → Bool) (items : List X) (i : ℕ) (x : X) → take (i + 1) items ≡ take i items ++ x ∷ [] →
    find p (take i items) ≡ None → p x ≡ false → find p (take (i + 1) items) ≡ None
none_next {X} p items i x more none is = ap (find p) more ∙ last (take i items) none
  where
    last : (xs : List X) → find p xs ≡ None → find p (xs ++ x ∷ []) ≡ None
    last [] k = ap (λ b. cond b (Some x) None) is
    last (z ∷ xs) k = by (λ j. last xs j) (p z) k
      where
        by : (find p xs ≡ None → find p (xs ++ x ∷ []) ≡ None) → (b : Bool) → cond b (Some z) (find p xs) ≡ None → cond b (Some z) (find p (xs ++ x ∷ [])) ≡ None
        by rest true j = absurd (cc)
        by rest false j = rest j

-- ---- switches that told nothing have no part

core_is_switch : (told : Told) (group : ℕ) (needed : List SwitchId) (core : SwitchId) → core_for told group needed ≡ Some core → IsAmong core (switches told)
core_is_switch told group [] core h = let none : None ≡ Some core = h in absurd (cc)
core_is_switch told group (e ∷ needed) core h =
    let best = best_cores told (e ∷ needed) in
    let among = got_among best (group % length best) core h in
    let core_switch = among_filter (λ c. reach told (e ∷ needed) c == largest (map (reach told (e ∷ needed)) (cores told))) core (cores told) among in
    (among_filter (λ c. has_level told c 2) core (switches told) core_switch.0).0

pub unplaced : (told : Told) (s : SwitchId) → list_any (same_switch s) (switches told) ≡ false → place_of told s ≡ nowhere
unplaced told s none = by (value_at id_cmp told.places s) refl
  where
    by : (o : Option Place) → value_at id_cmp told.places s ≡ o → unwrap_or o nowhere ≡ nowhere
    by None e = refl
    by (Some place) e =
        let key = found_key id_cmp id_exact told.places s place e in
        let there = among_in_order id_cmp id_exact s (tellers told) (among_left s (keys_of told.places) (map (λ l. l.0.0) told.links) key) in
        absurd (false≢true (sym none ∙ any_among (same_switch s) s (switches told) there (switch_itself s)))

no_part : (told : Told) (needed : List SwitchId) (s core : SwitchId) → list_any (same_switch s) (switches told) ≡ false → IsAmong core (switches told) →
    part_under told needed s core ≡ None
no_part told needed s core none there = other (same_switch s core) refl
  where
    nowhere_is : place_of told s ≡ nowhere
    nowhere_is = unplaced told s none

    other : (b : Bool) → same_switch s core ≡ b →
        cond b (Some (core_part told needed core))
        (cond (has_level told s 1 && is_alive told s core) (Some (aggregation_part told needed core s)) (option_map (edge_part told core) (edge_at s (place_of told s)))) ≡ None
    other true is = absurd (false≢true (sym none ∙ any_among (same_switch s) core (switches told) there is))
    other false is =
        ap (λ (place : Place). cond (is_known place.level 1 && is_alive told s core) (Some (aggregation_part told needed core s)) (option_map (edge_part told core) (edge_at s place))) nowhere_is

pub part_where_told : (told : Told) (members : Members) (group : ℕ) (s : SwitchId) (core : SwitchId) → core_of told members group ≡ Some core →
    cond (list_any (same_switch s) (switches told)) (part_under told (needed_edges told members group) s core) None ≡ tree_part told members group s
unfolding tree_part core_of
part_where_told told members group s core is = by (list_any (same_switch s) (switches told)) refl
  where
    needed : List SwitchId
    needed = needed_edges told members group

    by : (b : Bool) → list_any (same_switch s) (switches told) ≡ b →
        cond b (part_under told (needed_edges told members group) s core) None ≡ option_and_then (part_under told (needed_edges told members group) s) (core_for told group (needed_edges told members group))
    by true e = ap (option_and_then (part_under told (needed_edges told members group) s)) (sym is)
    by false e =
        sym (no_part told (needed_edges told members group) s core e (core_is_switch told group (needed_edges told members group) core is))
        ∙ ap (option_and_then (part_under told (needed_edges told members group) s)) (sym is)

pub no_core_no_part : (told : Told) (members : Members) (group : ℕ) (s : SwitchId) → core_of told members group ≡ None → None ≡ tree_part told members group s
unfolding tree_part core_of
no_core_no_part told members group s none = ap (option_and_then (part_under told (needed_edges told members group) s)) (sym none)

pub parts_are : (told : Told) (members : Members) (group : ℕ) (s : SwitchId) (o : Option SwitchId) → o ≡ core_of told members group →
    part_of_told told (needed_edges told members group) s o ≡ tree_part told members group s
parts_are told members group s None is = no_core_no_part told members group s (sym is)
parts_are told members group s (Some core) is = part_where_told told members group s core (sym is)

pub core_is : (told : Told) (members : Members) (group : ℕ) (needed : List SwitchId) (o : Option SwitchId) → needed ≡ needed_edges told members group →
    o ≡ core_for told group needed → o ≡ core_of told members group
unfolding core_of
core_is told members group needed o is found = found ∙ ap (core_for told group) is

pub part_is : (told : Told) (members : Members) (group : ℕ) (needed : List SwitchId) (core : Option SwitchId) (part : Option TreePart) (s : SwitchId) →
    needed ≡ needed_edges told members group → core ≡ core_for told group needed → part ≡ part_of_told told needed s core →
    part ≡ tree_part told members group s
part_is told members group needed core part s is found made =
    made ∙ ap (λ (edges : List SwitchId). part_of_told told edges s core) is
    ∙ parts_are told members group s core (core_is told members group needed core is found)

-- ---- whether a neighbour above an edge switch leads up, tested in another order
pub up_near : (above in_pod linked : Bool) → linked ≡ true → (above && in_pod) ≡ (above && (in_pod && linked))
up_near above true true h = refl
up_near above false true h = refl
up_near above in_pod false h = absurd (false≢true h)

pub up_far : (above in_pod linked : Bool) → linked ≡ false → false ≡ (above && (in_pod && linked))
up_far false in_pod linked h = refl
up_far true false linked h = refl
up_far true true linked h = sym h
