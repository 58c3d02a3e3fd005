-- What an address table shows of an address is what is kept of it, and how old it is.
use Rattle.std.proofs.Common.{◌≡◌, ◌≢◌, ◌<◌, ◌≤◌, ℕ, zero, suc, ◌+◌, ◌-◌, ◌==◌, Bool, true, false, cond, not, List, [], ◌∷◌, ◌++◌, length, map, Option, Some, None, is_some, refl, inl, inr, sym, ap, subst, ◌∙◌, arith}
use Rattle.std.specs.List.{AllByRecursion, IsDistinct, slice_get}
use Rattle.std.specs.Option.{option_map}
use Rattle.std.proofs.lemmas.Bool.{cases_Bool, cases_lt, cond-false, cond-true, cond_both, false_from_ne_true}
use Rattle.std.proofs.lemmas.List.{append-nil}
use Rattle.std.proofs.lemmas.Option.{same_Some}
use Rattle.pl_lemmas.proofs.Exports.{all_append, all_filter, all_push, all_weaker}
use Rattle.pl_pmac.specs.declared.pmac.Pmac.{Pmac}
use Rattle.pl_layouts.specs.Equality.{same_pmac}
use Rattle.pl_layouts.proofs.Exports.{pmac_is}
use Rattle.pl_node.specs.declared.address_use.AddressUse.{AddressUse}
use Rattle.pl_node.specs.declared.address_use.AddressUse.TheVariants as as_used
use Rattle.pl_node.specs.declared.switch_records.Grant.{Grant}
use Rattle.pl_pool.specs.declared.key.Key.{Key}
use Rattle.pl_pool.specs.Pool.{Lists, items_of, list_at}
use Rattle.pl_switch_rule.specs.Delivering.{grant_trap}
use Rattle.pl_node.specs.AddressUses.{is_in_use, standing_trap}
use Rattle.pl_switch_rule.specs.Aging.{ticks_to_probe, ticks_to_rest}
use Rattle.pl_switch_rule.specs.Granting.{without}
use Rattle.pl_migrate.specs.AddressTables.{AddressTableView, granted_in, is_address_in_use, is_used, trap_in, use_of}
use Rattle.pl_migrate.specs.Keeping.{DoFall, FallDueInOrder, IsCaughtUp, IsYoung, ticks_as, ticks_in, ticks_since}
use Rattle.pl_migrate.specs.declared.tenancy.Standing.{Standing}
use Rattle.pl_migrate.specs.declared.tenancy.Standing.TheVariants.{Fresh, Asked, Trapped, Resting, Free}
use Rattle.pl_migrate.specs.declared.tenancy.Tenancy.{Tenancy}
use Rattle.pl_migrate.specs.Tenancies.{AreInOrder, DoRise, IsDue, StandsIn, addresses_in, grant_of, is_of, list_of, since_if, since_of, table_view, tenancy_at, use_after}
use Rattle.pl_migrate.proofs.Entries.{tenancies_of}
use Rattle.pl_migrate.proofs.Listed.{AreListed, all_here, are_listed}
use Rattle.pl_migrate.proofs.Numbers.{at_number, number_map}
use Rattle.pl_migrate.proofs.Pairs.{IsOther, absent_without, all_items}
use Rattle.pl_migrate.proofs.Placed.{IsPut, all_both}
use Rattle.pl_migrate.proofs.Views.{grants_of_port}

module _ (pod position now : ℕ) where
  abbrev shown : List (List Tenancy) → Lists Pmac → AddressTableView
  shown ports orders = table_view pod position now ports orders

  -- What was granted.

  pub granted_is : (ports : List (List Tenancy)) (orders : Lists Pmac) (x : Pmac) →
      granted_in (shown ports orders) x ≡ cond (is_of pod position x) (option_map (grant_of now) (tenancy_at ports x)) None
  granted_is ports orders x =
      ap (λ (gs : List Grant). cond (is_of pod position x) (at_number gs x.vmid) None) (grants_of_port now ports x.port)
      ∙ ap (λ o. cond (is_of pod position x) o None) (number_map (grant_of now) (tenancies_of ports x.port) x.vmid)

  pub granted_of : (ports : List (List Tenancy)) (orders : Lists Pmac) (x : Pmac) (t : Tenancy) → is_of pod position x ≡ true → tenancy_at ports x ≡ Some t →
      granted_in (shown ports orders) x ≡ Some (grant_of now t)
  granted_of ports orders x t here found =
      granted_is ports orders x ∙ cond-true (is_of pod position x) (option_map (grant_of now) (tenancy_at ports x)) None here
      ∙ ap (option_map (grant_of now)) found

  pub granted_new : (ports : List (List Tenancy)) (orders : Lists Pmac) (x : Pmac) → tenancy_at ports x ≡ None → granted_in (shown ports orders) x ≡ None
  granted_new ports orders x new =
      granted_is ports orders x ∙ ap (λ o. cond (is_of pod position x) (option_map (grant_of now) o) None) new
      ∙ elim (is_of pod position x) as (λ b. ◌≡◌ {A = Option Grant} (cond b None None) None) [ true ↦ refl | false ↦ refl ]

  pub granted_away : (ports : List (List Tenancy)) (orders : Lists Pmac) (x : Pmac) → is_of pod position x ≡ false → granted_in (shown ports orders) x ≡ None
  granted_away ports orders x away =
      granted_is ports orders x ∙ cond-false (is_of pod position x) (option_map (grant_of now) (tenancy_at ports x)) None away

  -- and the other way round
  pub record IsGrantedSo (ports : List (List Tenancy)) (x : Pmac) (grant : Grant) : Type 0 where
    pub here : is_of pod position x ≡ true
    pub tenancy : Tenancy
    pub found : tenancy_at ports x ≡ Some tenancy
    pub is : grant ≡ grant_of now tenancy

  granted_by : (ports : List (List Tenancy)) (x : Pmac) (grant : Grant) (b : Bool) (o : Option Tenancy) → is_of pod position x ≡ b → tenancy_at ports x ≡ o →
      cond b (option_map (grant_of now) o) None ≡ Some grant → IsGrantedSo ports x grant
  granted_by ports x grant true (Some t) here found is = record { here = here; tenancy = t; found = found; is = sym (same_Some _ _ is) }
  granted_by ports x grant true None here found is = absurd (let e = is in cc)
  granted_by ports x grant false o here found is = absurd (let e = is in cc)

  pub is_granted_so : (ports : List (List Tenancy)) (orders : Lists Pmac) (x : Pmac) (grant : Grant) → granted_in (shown ports orders) x ≡ Some grant →
      IsGrantedSo ports x grant
  is_granted_so ports orders x grant found =
      granted_by ports x grant (is_of pod position x) (tenancy_at ports x) refl refl (sym (granted_is ports orders x) ∙ found)

  -- where the same is kept of an address the same is shown
  pub granted_same : (ports after : List (List Tenancy)) (orders entered : Lists Pmac) (x : Pmac) → (is_of pod position x ≡ true →
      tenancy_at after x ≡ tenancy_at ports x) →
      granted_in (shown after entered) x ≡ granted_in (shown ports orders) x
  granted_same ports after orders entered x same = elim (cases_Bool (is_of pod position x)) [
    | inl here ↦
        granted_is after entered x ∙ ap (λ o. cond (is_of pod position x) (option_map (grant_of now) o) None) (same here) ∙ sym (granted_is ports orders x)
    | inr away ↦ granted_away after entered x away ∙ sym (granted_away ports orders x away)
  ]

  pub others_granted : (ports after : List (List Tenancy)) (orders entered : Lists Pmac) (x : Pmac) (new : Tenancy) →
      IsPut pod position ports after orders entered x new →
      (other : Pmac) → other ≢ x → granted_in (shown after entered) other ≡ granted_in (shown ports orders) other
  others_granted ports after orders entered x new put other apart =
      granted_same ports after orders entered other
      (λ here. put.others other here (false_from_ne_true (same_pmac other x) (λ same. apart (pmac_is other x same))))

  -- How old.

  pub ticks_of : (ports : List (List Tenancy)) (orders : Lists Pmac) (x : Pmac) (t : Tenancy) → is_of pod position x ≡ true → tenancy_at ports x ≡ Some t →
      ticks_in (shown ports orders) x ≡ ticks_as (use_after (now - t.since) t.standing)
  ticks_of ports orders x t here found = ap (λ o. ticks_since (use_of o)) (granted_of ports orders x t here found)

none_yet : (standing : Standing) → ticks_as (use_after 0 standing) ≡ 0
none_yet Fresh = refl
none_yet Asked = refl
none_yet (Trapped trap) = refl
none_yet (Resting number) = refl
none_yet Free = refl

listed_ticks : (n list port : ℕ) (standing : Standing) → list < 3 → list ≡ list_of port standing → ticks_as (use_after n standing) ≡ n
listed_ticks n list port Fresh low is = refl
listed_ticks n list port Asked low is = refl
listed_ticks n list port (Trapped trap) low is = refl
listed_ticks n list port (Resting number) low is = absurd (omega arith)
listed_ticks n list port Free low is = absurd (omega arith)

-- What stands in a list.

pub record IsIn (pod position : ℕ) (ports : List (List Tenancy)) (list : ℕ) (x : Pmac) : Type 0 where
  pub here : is_of pod position x ≡ true
  pub tenancy : Tenancy
  pub found : tenancy_at ports x ≡ Some tenancy
  pub list_is : list ≡ list_of x.port tenancy.standing

pub all_in : (pod position : ℕ) (ports : List (List Tenancy)) (orders : Lists Pmac) → AreListed pod position ports orders → (list : ℕ) →
    AllByRecursion (IsIn pod position ports list) (addresses_in orders list)
all_in pod position ports orders listed list =
    all_items (IsIn pod position ports list) (list_at orders list)
    (all_weaker (StandsIn pod position ports list) (λ (pair : Key × Pmac). IsIn pod position ports list pair.1)
    (λ pair stands. record { here = stands.here; tenancy = stands.tenancy; found = stands.found; list_is = stands.list_is }) (list_at orders list)
    (listed.listed list))

-- of those in use, and of those with a trap, the age is the ticks since
pub ticks_listed : (pod position now : ℕ) (ports : List (List Tenancy)) (orders : Lists Pmac) (list : ℕ) (x : Pmac) → list < 3 →
    IsIn pod position ports list x →
    ticks_in (table_view pod position now ports orders) x ≡ now - since_of ports x
ticks_listed pod position now ports orders list x low is =
    ticks_of pod position now ports orders x is.tenancy is.here is.found
    ∙ listed_ticks (now - is.tenancy.since) list x.port is.tenancy.standing low is.list_is
    ∙ sym (ap (λ o. now - since_if o) is.found)

all_ticks : (pod position now : ℕ) (ports : List (List Tenancy)) (orders : Lists Pmac) → AreInOrder pod position now ports orders → (list : ℕ) → list < 3 →
    AllByRecursion (λ y. ticks_in (table_view pod position now ports orders) y ≡ now - since_of ports y) (addresses_in orders list)
all_ticks pod position now ports orders order list low =
    all_weaker (IsIn pod position ports list) (λ y. ticks_in (table_view pod position now ports orders) y ≡ now - since_of ports y)
    (λ y is. ticks_listed pod position now ports orders list y low is) (addresses_in orders list)
    (all_in pod position ports orders (are_listed pod position now ports orders order) list)

falls : (since ticks : Pmac → ℕ) (now : ℕ) (xs : List Pmac) → AllByRecursion (λ y. ticks y ≡ now - since y) xs → DoRise since xs → DoFall ticks xs
falls since ticks now [] are rises = tt
falls since ticks now (x ∷ xs) are rises = (
  all_both (λ y. ticks y ≡ now - since y) (λ y. since x ≤ since y) (λ y. ticks y ≤ ticks x) (λ y is later. let first = are.0 in omega arith) xs are.1 rises.0,
  falls since ticks now xs are.1 rises.1,
)

used_listed : (n list port : ℕ) (standing : Standing) → list < 2 → list ≡ list_of port standing → is_in_use (use_after n standing) ≡ true
used_listed n list port Fresh low is = refl
used_listed n list port Asked low is = refl
used_listed n list port (Trapped trap) low is = absurd (omega arith)
used_listed n list port (Resting number) low is = absurd (omega arith)
used_listed n list port Free low is = absurd (omega arith)

trapped_listed : (n port : ℕ) (standing : Standing) → 2 ≡ list_of port standing → is_some (standing_trap (use_after n standing)) ≡ true
trapped_listed n port Fresh is = absurd (omega arith)
trapped_listed n port Asked is = absurd (omega arith)
trapped_listed n port (Trapped trap) is = refl
trapped_listed n port (Resting number) is = absurd (omega arith)
trapped_listed n port Free is = absurd (omega arith)

used_in : (pod position now : ℕ) (ports : List (List Tenancy)) (orders : Lists Pmac) (list : ℕ) (x : Pmac) → list < 2 → IsIn pod position ports list x →
    is_address_in_use (table_view pod position now ports orders) x ≡ true
used_in pod position now ports orders list x low is =
    ap is_used (granted_of pod position now ports orders x is.tenancy is.here is.found)
    ∙ used_listed (now - is.tenancy.since) list x.port is.tenancy.standing low is.list_is

trapped_in : (pod position now : ℕ) (ports : List (List Tenancy)) (orders : Lists Pmac) (x : Pmac) → IsIn pod position ports 2 x →
    is_some (trap_in (table_view pod position now ports orders) x) ≡ true
trapped_in pod position now ports orders x is =
    ap (λ o. is_some (grant_trap o)) (granted_of pod position now ports orders x is.tenancy is.here is.found)
    ∙ trapped_listed (now - is.tenancy.since) x.port is.tenancy.standing is.list_is

pub fall_due : (pod position now : ℕ) (ports : List (List Tenancy)) (orders : Lists Pmac) → AreInOrder pod position now ports orders →
    FallDueInOrder (table_view pod position now ports orders)
fall_due pod position now ports orders order =
    let table : AddressTableView = table_view pod position now ports orders in
    let listed = are_listed pod position now ports orders order in
    record {
      used = falls (since_of ports) (ticks_in table) now (addresses_in orders 1 ++ addresses_in orders 0)
          (all_append (λ y. ticks_in table y ≡ now - since_of ports y) (addresses_in orders 1) (addresses_in orders 0)
          (all_ticks pod position now ports orders order 1 (omega arith)) (all_ticks pod position now ports orders order 0 (omega arith))) order.used;
      trapped = falls (since_of ports) (ticks_in table) now (addresses_in orders 2)
          (all_ticks pod position now ports orders order 2 (omega arith)) order.trapped;
      all_used = all_append (λ x. is_address_in_use table x ≡ true) (addresses_in orders 1) (addresses_in orders 0)
          (all_weaker (IsIn pod position ports 1) (λ x. is_address_in_use table x ≡ true)
          (λ x is. used_in pod position now ports orders 1 x (omega arith) is) (addresses_in orders 1) (all_in pod position ports orders listed 1))
          (all_weaker (IsIn pod position ports 0) (λ x. is_address_in_use table x ≡ true)
          (λ x is. used_in pod position now ports orders 0 x (omega arith) is) (addresses_in orders 0) (all_in pod position ports orders listed 0));
      all_trapped = all_weaker (IsIn pod position ports 2) (λ x. is_some (trap_in table x) ≡ true)
          (λ x is. trapped_in pod position now ports orders x is) (addresses_in orders 2) (all_in pod position ports orders listed 2);
    }

-- Nothing is due behind a change.

all_put : (P Q : Pmac → Type 0) (x : Pmac) (last : Bool) (xs : List Pmac) → AllByRecursion P xs → ((y : Pmac) → IsOther x y → P y → Q y) → Q x →
    AllByRecursion Q (without x xs ++ cond last (x ∷ []) [])
all_put P Q x last xs all each own =
    let rest : AllByRecursion Q (without x xs) =
    all_both (IsOther x) P Q each (without x xs) (absent_without x xs) (all_filter P (λ y. not (same_pmac y x)) xs all) in
    elim last as (λ b. AllByRecursion Q (without x xs ++ cond b (x ∷ []) [])) [
      | true ↦ all_push Q (without x xs) x rest own
      | false ↦ subst (AllByRecursion Q) (sym (append-nil (without x xs))) rest
    ]

all_gone : (P Q : Pmac → Type 0) (x : Pmac) (xs : List Pmac) → AllByRecursion P xs → ((y : Pmac) → IsOther x y → P y → Q y) → AllByRecursion Q (without x xs)
all_gone P Q x xs all each = all_both (IsOther x) P Q each (without x xs) (absent_without x xs) (all_filter P (λ y. not (same_pmac y x)) xs all)

pub caught_up_put : (pod position now : ℕ) (ports after : List (List Tenancy)) (orders entered : Lists Pmac) (x : Pmac) (new : Tenancy) →
    IsPut pod position ports after orders entered x new → is_of pod position x ≡ true → new.since ≡ now → (1 == list_of x.port new.standing) ≡ false →
    IsCaughtUp (table_view pod position now ports orders) → IsCaughtUp (table_view pod position now after entered)
caught_up_put pod position now ports after orders entered x new put here since unasked caught =
    let old : AddressTableView = table_view pod position now ports orders in
    let now_table : AddressTableView = table_view pod position now after entered in
    let same : (y : Pmac) → IsOther x y → ticks_in now_table y ≡ ticks_in old y =
    (λ y other. ap (λ o. ticks_since (use_of o)) (granted_same pod position now ports after orders entered y (λ here_y. put.others y here_y other))) in
    let own : ticks_in now_table x ≡ 0 =
    ticks_of pod position now after entered x new here put.there
    ∙ ap (λ n. ticks_as (use_after n new.standing)) (let e = since in omega arith) ∙ none_yet new.standing in
    record {
      fresh = subst (AllByRecursion (λ y. ticks_in now_table y < ticks_to_probe)) (sym (put.addresses 0))
          (all_put (λ y. ticks_in old y < ticks_to_probe) (λ y. ticks_in now_table y < ticks_to_probe) x (0 == list_of x.port new.standing)
          (addresses_in orders 0) caught.fresh
          (λ y other young. let e = same y other in omega arith) (omega arith));
      asked = subst (AllByRecursion (λ y. (ticks_to_probe ≤ ticks_in now_table y) × (ticks_in now_table y < ticks_to_rest)))
          (sym (put.addresses 1 ∙ ap (λ b. without x (addresses_in orders 1) ++ cond b (x ∷ []) []) unasked ∙ append-nil (without x (addresses_in orders 1))))
          (all_gone (λ y. (ticks_to_probe ≤ ticks_in old y) × (ticks_in old y < ticks_to_rest))
          (λ y. (ticks_to_probe ≤ ticks_in now_table y) × (ticks_in now_table y < ticks_to_rest))
          x (addresses_in orders 1) caught.asked
          (λ y other both. let e = same y other in let low = both.0 in let high = both.1 in (omega arith, omega arith)));
      trapped = subst (AllByRecursion (λ y. ticks_in now_table y < ticks_to_rest)) (sym (put.addresses 2))
          (all_put (λ y. ticks_in old y < ticks_to_rest) (λ y. ticks_in now_table y < ticks_to_rest) x (2 == list_of x.port new.standing)
          (addresses_in orders 2) caught.trapped
          (λ y other young. let e = same y other in omega arith) (omega arith));
    }
