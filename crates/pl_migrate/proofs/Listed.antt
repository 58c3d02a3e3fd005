-- The lists of an address table, where an address leaves its list and stands behind the last of another.
use Rattle.std.proofs.Common.{◌≡◌, ◌<◌, ◌≤◌, ℕ, ◌+◌, ◌==◌, Bool, true, false, cond, List, [], ◌∷◌, ◌++◌, length, Option, Some, None, get_or, refl, inl, inr, sym, ap, subst, ◌∙◌}
use Rattle.std.specs.List.{AllByRecursion, IsDistinct}
use Rattle.std.specs.Prelude.{slice_set}
use Rattle.std.proofs.lemmas.Bool.{both_ways, cases_Bool, cases_eq, cases_lt, cond-false, cond-true, eq-eqb, eqb-true, false_from_ne_true, ne_eqb}
use Rattle.std.proofs.lemmas.List.{append-nil, get_or_past, map_push}
use Rattle.std.proofs.lemmas.Option.{same_Some}
use Rattle.pl_lemmas.proofs.Exports.{all_push, all_weaker, same_truth}
use Rattle.pl_pmac.specs.declared.pmac.Pmac.{Pmac}
use Rattle.pl_layouts.specs.Equality.{same_pmac}
use Rattle.pl_layouts.proofs.Exports.{pmac_is, pmac_itself}
use Rattle.pl_pool.specs.declared.key.Key.{Key}
use Rattle.pl_pool.specs.Pool.{IsFree, Lists, is_under, item_at, items_of, list_at, without as without_key}
use Rattle.pl_switch_rule.specs.Granting.{without}
use Rattle.pl_migrate.specs.declared.tenancy.Tenancy.{Tenancy}
use Rattle.pl_migrate.specs.Orders.{taken_out}
use Rattle.pl_migrate.specs.Tenancies.{AreInOrder, StandsIn, addresses_in, is_of, list_of, tenancy_at}
use Rattle.pl_migrate.proofs.Entries.{IsSet, apart_here}
use Rattle.pl_migrate.proofs.Pairs.{IsOther, all_but_under, all_items, distinct_push, distinct_without, found_before, found_last, found_without, get_or_set, items_without, without_absent}

-- All addresses but one stand in their lists, and that one in none.
pub record AreOthers (pod position : ℕ) (ports : List (List Tenancy)) (orders : Lists Pmac) (x : Pmac) : Type 0 where
  pub placed : (y : Pmac) (t : Tenancy) → is_of pod position y ≡ true → IsOther x y → tenancy_at ports y ≡ Some t →
      item_at (list_at orders (list_of y.port t.standing)) t.key ≡ Some y
  pub listed : (list : ℕ) → AllByRecursion (λ pair. StandsIn pod position ports list pair × IsOther x pair.1) (list_at orders list)
  pub apart : (list : ℕ) → IsDistinct same_pmac (addresses_in orders list)

-- all stand in their lists
pub record AreListed (pod position : ℕ) (ports : List (List Tenancy)) (orders : Lists Pmac) : Type 0 where
  pub placed : (x : Pmac) (t : Tenancy) → is_of pod position x ≡ true → tenancy_at ports x ≡ Some t →
      item_at (list_at orders (list_of x.port t.standing)) t.key ≡ Some x
  pub listed : (list : ℕ) → AllByRecursion (StandsIn pod position ports list) (list_at orders list)
  pub apart : (list : ℕ) → IsDistinct same_pmac (addresses_in orders list)

pub are_listed : (pod position now : ℕ) (ports : List (List Tenancy)) (orders : Lists Pmac) → AreInOrder pod position now ports orders →
    AreListed pod position ports orders
are_listed pod position now ports orders order = record { placed = order.placed; listed = order.listed; apart = order.apart }

-- What stands in a list is of this switch.
pub all_here : (pod position : ℕ) (ports : List (List Tenancy)) (orders : Lists Pmac) → AreListed pod position ports orders → (list : ℕ) →
    AllByRecursion (λ y. is_of pod position y ≡ true) (addresses_in orders list)
all_here pod position ports orders order list =
    all_items (λ y. is_of pod position y ≡ true) (list_at orders list)
    (all_weaker (StandsIn pod position ports list) (λ (pair : Key × Pmac). is_of pod position pair.1
    ≡ true) (λ pair stands. stands.here) (list_at orders list) (order.listed list))

-- a pair under an address stands as the address does
same_tenancy : (pod position : ℕ) (ports : List (List Tenancy)) (list : ℕ) (pair : Key × Pmac) (x : Pmac) (o : Option Tenancy)
    (stands : StandsIn pod position ports list pair) →
    same_pmac pair.1 x ≡ true → tenancy_at ports x ≡ o → Some stands.tenancy ≡ o
same_tenancy pod position ports list pair x o stands same found = sym stands.found ∙ ap (tenancy_at ports) (pmac_is pair.1 x same) ∙ found

-- An address that was never granted stands nowhere.

pub new_is_nowhere : (pod position : ℕ) (ports : List (List Tenancy)) (orders : Lists Pmac) (x : Pmac) → AreListed pod position ports orders →
    tenancy_at ports x ≡ None → AreOthers pod position ports orders x
new_is_nowhere pod position ports orders x order new = record {
  placed = λ y t here other found. order.placed y t here found;
  listed = λ list. all_weaker (StandsIn pod position ports list) (λ pair. StandsIn pod position ports list pair × IsOther x pair.1)
      (λ pair stands. (
        stands,
        false_from_ne_true (same_pmac pair.1 x) (λ same.
            let e = same_tenancy pod position ports list pair x None stands same new in cc),
      ))
      (list_at orders list) (order.listed list);
  apart = order.apart;
}

-- One that was granted stands in its list alone.

pub elsewhere : (pod position : ℕ) (ports : List (List Tenancy)) (orders : Lists Pmac) (x : Pmac) (old : Tenancy) → AreListed pod position ports orders →
    tenancy_at ports x ≡ Some old → (list : ℕ) → (list ≡ list_of x.port old.standing → ⊥) →
    AllByRecursion (λ pair. StandsIn pod position ports list pair × IsOther x pair.1) (list_at orders list)
elsewhere pod position ports orders x old order found list apart =
    all_weaker (StandsIn pod position ports list) (λ pair. StandsIn pod position ports list pair × IsOther x pair.1)
    (λ pair stands. (
      stands,
      false_from_ne_true (same_pmac pair.1 x) (λ same.
          let is : stands.tenancy ≡ old = same_Some _ _ (same_tenancy pod position ports list pair x (Some old) stands same found) in
          apart (stands.list_is ∙ ap (λ (y : Pmac). list_of y.port stands.tenancy.standing) (pmac_is pair.1 x same)
          ∙ ap (λ (t : Tenancy). list_of x.port t.standing) is)),
    ))
    (list_at orders list) (order.listed list)

pub absent_elsewhere : (pod position : ℕ) (ports : List (List Tenancy)) (orders : Lists Pmac) (x : Pmac) (old : Tenancy) → AreListed pod position ports orders →
    tenancy_at ports x ≡ Some old → (list : ℕ) → (list ≡ list_of x.port old.standing → ⊥) → without x (addresses_in orders list) ≡ addresses_in orders list
absent_elsewhere pod position ports orders x old order found list apart =
    without_absent x (addresses_in orders list) (all_items (IsOther x) (list_at orders list)
    (all_weaker (λ pair. StandsIn pod position ports list pair × IsOther x pair.1) (λ pair. IsOther x pair.1) (λ pair both. both.1) (list_at orders list)
    (elsewhere pod position ports orders x old order found list apart)))

-- and under its key alone
only_under : (pod position : ℕ) (ports : List (List Tenancy)) (orders : Lists Pmac) (x : Pmac) (old : Tenancy) → AreListed pod position ports orders →
    is_of pod position x ≡ true → tenancy_at ports x ≡ Some old → (pair : Key × Pmac) → StandsIn pod position ports (list_of x.port old.standing) pair →
    is_under old.key pair ≡ same_pmac pair.1 x
only_under pod position ports orders x old order here found pair stands =
    let from : ℕ = list_of x.port old.standing in
    same_truth (is_under old.key pair) (same_pmac pair.1 x)
    (λ under.
    let slots : pair.0.slot ≡ old.key.slot = eqb-true pair.0.slot old.key.slot under in
    let there : item_at (list_at orders from) old.key ≡ Some pair.1 =
    ap (λ (n : ℕ). item_at (list_at orders from) (record { slot = n })) (sym slots ∙ ap (λ (k : Key). k.slot) (sym stands.key))
    ∙ ap (λ n. item_at (list_at orders n) stands.tenancy.key) stands.list_is ∙ order.placed pair.1 stands.tenancy stands.here stands.found in
    ap (λ a. same_pmac a x) (same_Some _ _ (sym there ∙ order.placed x old here found)) ∙ pmac_itself x)
    (λ same.
    let is : stands.tenancy ≡ old = same_Some _ _ (same_tenancy pod position ports from pair x (Some old) stands same found) in
    eq-eqb pair.0.slot old.key.slot (ap (λ (k : Key). k.slot) (sym stands.key) ∙ ap (λ (t : Tenancy). t.key.slot) is))

-- An address leaves its list.

in_a_list : (orders : Lists Pmac) (list : ℕ) (key : Key) (x : Pmac) → item_at (list_at orders list) key ≡ Some x → list < length orders.lists
in_a_list orders list key x there = elim (cases_lt list (length orders.lists)) [
  | inl within ↦ within
  | inr past ↦ absurd (let e = sym (ap (λ pairs. item_at pairs key) (get_or_past orders.lists list [] past)) ∙ there in cc)
]

-- what stood in each list before, without that one
pub record HasLeft (pod position : ℕ) (ports : List (List Tenancy)) (before after : Lists Pmac) (x : Pmac) : Type 0 where
  pub others : AreOthers pod position ports after x
  pub addresses : (list : ℕ) → addresses_in after list ≡ without x (addresses_in before list)

module _ (pod position : ℕ) (ports : List (List Tenancy)) (orders : Lists Pmac) (x : Pmac) (old : Tenancy) (order : AreListed pod position ports orders)
    (here : is_of pod position x ≡ true) (found : tenancy_at ports x ≡ Some old) where
  abbrev from : ℕ
  from = list_of x.port old.standing

  abbrev left : Lists Pmac
  left = taken_out orders from old.key

  left_at : (list : ℕ) → list_at left list ≡ cond (list == from) (without_key (list_at orders from) old.key) (list_at orders list)
  left_at list = get_or_set orders.lists from list (without_key (list_at orders from) old.key) [] (in_a_list orders from old.key x
      (order.placed x old here found))

  left_from : list_at left from ≡ without_key (list_at orders from) old.key
  left_from = left_at from ∙ cond-true (from == from) (without_key (list_at orders from) old.key) (list_at orders from) (eq-eqb from from refl)

  left_elsewhere : (list : ℕ) → (list ≡ from → ⊥) → list_at left list ≡ list_at orders list
  left_elsewhere list apart = left_at list ∙ cond-false (list == from) (without_key (list_at orders from) old.key) (list_at orders list)
      (ne_eqb list from apart)

  abbrev StandsApart : ℕ → Key × Pmac → Type 0
  StandsApart list pair = StandsIn pod position ports list pair × IsOther x pair.1

  left_listed : (list : ℕ) → AllByRecursion (StandsApart list) (list_at left list)
  left_listed list = elim (cases_eq list from) [
    | inl same ↦ subst (λ n. AllByRecursion (StandsApart n) (list_at left n)) (sym same)
        (subst (AllByRecursion (StandsApart from)) (sym left_from)
        (all_but_under (StandsIn pod position ports from) (StandsApart from) old.key
        (λ pair apart stands. (stands, sym (only_under pod position ports orders x old order here found pair stands) ∙ apart))
        (list_at orders from) (order.listed from)))
    | inr apart ↦ subst (AllByRecursion (StandsApart list)) (sym (left_elsewhere list apart)) (elsewhere pod position ports orders x old order found list apart)
  ]

  left_addresses : (list : ℕ) → addresses_in left list ≡ without x (addresses_in orders list)
  left_addresses list = elim (cases_eq list from) [
    | inl same ↦ ap (addresses_in left) same ∙ ap items_of left_from
        ∙ items_without x old.key (list_at orders from)
        (all_weaker (StandsIn pod position ports from) (λ pair. is_under old.key pair
        ≡ same_pmac pair.1 x) (only_under pod position ports orders x old order here found)
        (list_at orders from) (order.listed from))
        ∙ sym (ap (λ n. without x (addresses_in orders n)) same)
    | inr apart ↦ ap items_of (left_elsewhere list apart) ∙ sym (absent_elsewhere pod position ports orders x old order found list apart)
  ]

  left_placed : (y : Pmac) (t : Tenancy) → is_of pod position y ≡ true → IsOther x y → tenancy_at ports y ≡ Some t →
      item_at (list_at left (list_of y.port t.standing)) t.key ≡ Some y
  left_placed y t here_y other there = elim (cases_eq (list_of y.port t.standing) from) [
    | inl same ↦
        let stood : item_at (list_at orders from) t.key ≡ Some y = sym (ap (λ n. item_at (list_at orders n) t.key) same) ∙ order.placed y t here_y there in
        let apart : t.key.slot ≡ old.key.slot → ⊥ =
        (λ slots.
        let is : y ≡ x = same_Some _ _ (sym stood ∙ ap (λ (n : ℕ). item_at (list_at orders from) (record { slot = n })) slots
        ∙ order.placed x old here found) in
        both_ways (same_pmac y x) other (ap (λ a. same_pmac a x) is ∙ pmac_itself x)) in
        ap (λ n. item_at (list_at left n) t.key) same ∙ ap (λ pairs. item_at pairs t.key) left_from
        ∙ found_without old.key t.key apart (list_at orders from) ∙ stood
    | inr away ↦ ap (λ pairs. item_at pairs t.key) (left_elsewhere (list_of y.port t.standing) away) ∙ order.placed y t here_y there
  ]

  pub has_left : HasLeft pod position ports orders left x
  has_left = record {
    others = record {
      placed = left_placed;
      listed = left_listed;
      apart = λ list. subst (IsDistinct same_pmac) (sym (left_addresses list)) (distinct_without x (addresses_in orders list) (order.apart list));
    };
    addresses = left_addresses;
  }

-- An address comes to a list.

module _ (pod position : ℕ) (before after : List (List Tenancy)) (left entered : Lists Pmac) (x : Pmac) (new : Tenancy)
    (others : AreOthers pod position before left x)
    (set : IsSet before after x new) (here : is_of pod position x ≡ true) (within : list_of x.port new.standing < length left.lists)
    (free : IsFree left new.key)
    (comes : entered.lists ≡ slice_set left.lists (list_of x.port new.standing) (list_at left (list_of x.port new.standing) ++ (new.key, x) ∷ [])) where
  abbrev to : ℕ
  to = list_of x.port new.standing

  abbrev longer : List (Key × Pmac)
  longer = list_at left to ++ (new.key, x) ∷ []

  entered_at : (list : ℕ) → list_at entered list ≡ cond (list == to) longer (list_at left list)
  entered_at list = ap (λ (lists : List (List (Key × Pmac))). get_or lists list []) comes ∙ get_or_set left.lists to list longer [] within

  entered_to : list_at entered to ≡ longer
  entered_to = entered_at to ∙ cond-true (to == to) longer (list_at left to) (eq-eqb to to refl)

  entered_elsewhere : (list : ℕ) → (list ≡ to → ⊥) → list_at entered list ≡ list_at left list
  entered_elsewhere list apart = entered_at list ∙ cond-false (list == to) longer (list_at left list) (ne_eqb list to apart)

  pub others_same : (y : Pmac) → is_of pod position y ≡ true → IsOther x y → tenancy_at after y ≡ tenancy_at before y
  others_same y here_y other = set.others y (apart_here pod position x y here here_y other)

  entered_placed : (y : Pmac) (t : Tenancy) → is_of pod position y ≡ true → tenancy_at after y ≡ Some t →
      item_at (list_at entered (list_of y.port t.standing)) t.key ≡ Some y
  entered_placed y t here_y found = elim (cases_Bool (same_pmac y x)) [
    | inl same ↦
        let is : y ≡ x = pmac_is y x same in
        let tenancy : t ≡ new = same_Some _ _ (sym found ∙ ap (tenancy_at after) is ∙ set.there) in
        ap (λ (a : Pmac). item_at (list_at entered (list_of a.port t.standing)) t.key) is
        ∙ ap (λ (s : Tenancy). item_at (list_at entered (list_of x.port s.standing)) s.key) tenancy
        ∙ ap (λ pairs. item_at pairs new.key) entered_to ∙ found_last new.key x (list_at left to) (free to)
        ∙ ap (λ (a : Pmac). Some a) (sym is)
    | inr other ↦
        let stood = others.placed y t here_y other (sym (others_same y here_y other) ∙ found) in
        elim (cases_eq (list_of y.port t.standing) to) [
          | inl same ↦
              ap (λ n. item_at (list_at entered n) t.key) same ∙ ap (λ pairs. item_at pairs t.key) entered_to
              ∙ found_before (new.key, x) t.key y (list_at left to) (sym (ap (λ n. item_at (list_at left n) t.key) same) ∙ stood)
          | inr away ↦ ap (λ pairs. item_at pairs t.key) (entered_elsewhere (list_of y.port t.standing) away) ∙ stood
        ]
  ]

  still_stands : (list : ℕ) (pair : Key × Pmac) → StandsIn pod position before list pair × IsOther x pair.1 → StandsIn pod position after list pair
  still_stands list pair both = record {
    here = both.0.here;
    tenancy = both.0.tenancy;
    found = others_same pair.1 both.0.here both.1 ∙ both.0.found;
    key = both.0.key;
    list_is = both.0.list_is;
  }

  all_still : (list : ℕ) → AllByRecursion (StandsIn pod position after list) (list_at left list)
  all_still list = all_weaker (λ pair. StandsIn pod position before list pair × IsOther x pair.1) (StandsIn pod position after list) (still_stands list)
      (list_at left list) (others.listed list)

  entered_listed : (list : ℕ) → AllByRecursion (StandsIn pod position after list) (list_at entered list)
  entered_listed list = elim (cases_eq list to) [
    | inl same ↦ subst (λ n. AllByRecursion (StandsIn pod position after n) (list_at entered n)) (sym same)
        (subst (AllByRecursion (StandsIn pod position after to)) (sym entered_to)
        (all_push (StandsIn pod position after to) (list_at left to) (new.key, x) (all_still to)
        (record { here = here; tenancy = new; found = set.there; key = refl; list_is = refl })))
    | inr apart ↦ subst (AllByRecursion (StandsIn pod position after list)) (sym (entered_elsewhere list apart)) (all_still list)
  ]

  absent : (list : ℕ) → AllByRecursion (IsOther x) (addresses_in left list)
  absent list = all_items (IsOther x) (list_at left list)
      (all_weaker (λ pair. StandsIn pod position before list pair × IsOther x pair.1) (λ pair. IsOther x pair.1) (λ pair both. both.1) (list_at left list)
      (others.listed list))

  entered_longer : addresses_in entered to ≡ addresses_in left to ++ x ∷ []
  entered_longer = ap items_of entered_to ∙ map_push (λ (pair : Key × Pmac). pair.1) (list_at left to) (new.key, x)

  entered_apart : (list : ℕ) → IsDistinct same_pmac (addresses_in entered list)
  entered_apart list = elim (cases_eq list to) [
    | inl same ↦ subst (λ n. IsDistinct same_pmac (addresses_in entered n)) (sym same)
        (subst (IsDistinct same_pmac) (sym entered_longer) (distinct_push x (addresses_in left to) (absent to) (others.apart to)))
    | inr apart ↦ subst (λ pairs. IsDistinct same_pmac (items_of pairs)) (sym (entered_elsewhere list apart)) (others.apart list)
  ]

  pub all_entered : AreListed pod position after entered
  all_entered = record { placed = entered_placed; listed = entered_listed; apart = entered_apart }

  pub entered_addresses : (list : ℕ) → addresses_in entered list ≡ addresses_in left list ++ cond (list == to) (x ∷ []) []
  entered_addresses list = elim (cases_eq list to) [
    | inl same ↦
        ap (addresses_in entered) same ∙ entered_longer ∙ sym (ap (λ n. addresses_in left n ++ x ∷ []) same)
        ∙ sym (ap (λ b. addresses_in left list ++ cond b (x ∷ []) []) (eq-eqb list to same))
    | inr apart ↦
        ap items_of (entered_elsewhere list apart) ∙ sym (append-nil (addresses_in left list))
        ∙ sym (ap (λ b. addresses_in left list ++ cond b (x ∷ []) []) (ne_eqb list to apart))
  ]
