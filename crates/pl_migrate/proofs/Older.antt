-- An address table one tick later.
use Rattle.std.proofs.Common.{◌≡◌, ◌<◌, ◌≤◌, ℕ, ◌+◌, ◌-◌, Bool, true, false, cond, List, [], ◌∷◌, ◌++◌, length, map, Option, Some, None, refl, inl, inr, sym, ap, subst, ◌∙◌, arith}
use Rattle.std.specs.List.{AllByRecursion}
use Rattle.std.specs.Option.{option_map}
use Rattle.std.proofs.lemmas.Bool.{cases_Bool}
use Rattle.std.proofs.lemmas.List.{length-map}
use Rattle.pl_lemmas.proofs.Exports.{all_append, all_weaker}
use Rattle.pl_pmac.specs.declared.pmac.Pmac.{Pmac}
use Rattle.pl_node.specs.AddressUses.{is_held}
use Rattle.pl_node.specs.declared.address_use.AddressUse.{AddressUse}
use Rattle.pl_node.specs.declared.address_use.AddressUse.TheVariants as as_used
use Rattle.pl_node.specs.declared.switch_records.Grant.{Grant}
use Rattle.pl_node.specs.SwitchViews.{SwitchView}
use Rattle.pl_pool.specs.Pool.{Lists}
use Rattle.pl_switch_rule.specs.Aging.{older, older_grant, with_older}
use Rattle.pl_switch_rule.specs.Granting.{unless_free}
use Rattle.pl_migrate.specs.AddressTables.{AddressTableView, address_table_in, granted_in, grantee_at}
use Rattle.pl_migrate.specs.Keeping.{IsOlder, KeepsGrants, ticks_in}
use Rattle.pl_migrate.specs.declared.grantee.Grantee.{Grantee}
use Rattle.pl_migrate.specs.declared.tenancy.Standing.{Standing}
use Rattle.pl_migrate.specs.declared.tenancy.Standing.TheVariants.{Fresh, Asked, Trapped, Resting, Free}
use Rattle.pl_migrate.specs.declared.tenancy.Tenancy.{Tenancy}
use Rattle.pl_migrate.specs.Tenancies.{AreInOrder, IsPast, addresses_in, grant_of, is_of, table_view, tenancy_at, use_after}
use Rattle.pl_migrate.proofs.Ages.{IsIn, all_in, granted_is, ticks_listed}
use Rattle.pl_migrate.proofs.Listed.{are_listed}
use Rattle.pl_migrate.proofs.Placed.{since_below}

use_later : (n : ℕ) (standing : Standing) → older (use_after n standing) ≡ use_after (n + 1) standing
use_later n Fresh = refl
use_later n Asked = refl
use_later n (Trapped trap) = refl
use_later n (Resting number) = refl
use_later n Free = refl

grant_later : (now : ℕ) (t : Tenancy) → IsPast now t → older_grant (grant_of now t) ≡ grant_of (now + 1) t
grant_later now t past =
    let next : now - t.since + 1 ≡ now + 1 - t.since = omega arith in
    ap (λ (held : AddressUse). record (grant_of now t) { held = held }) (use_later (now - t.since) t.standing ∙ ap (λ n. use_after n t.standing) next)

port_later : (now : ℕ) (ts : List Tenancy) → AllByRecursion (IsPast now) ts → map older_grant (map (grant_of now) ts) ≡ map (grant_of (now + 1)) ts
port_later now [] past = refl
port_later now (t ∷ ts) past = ap (λ g. g ∷ map older_grant (map (grant_of now) ts)) (grant_later now t past.0)
    ∙ ap (λ gs. grant_of (now + 1) t ∷ gs) (port_later now ts past.1)

grants_later : (now : ℕ) (ports : List (List Tenancy)) → AllByRecursion (AllByRecursion (IsPast now)) ports →
    map (map older_grant) (map (map (grant_of now)) ports) ≡ map (map (grant_of (now + 1))) ports
grants_later now [] past = refl
grants_later now (ts ∷ ports) past =
    ap (λ gs. gs ∷ map (map older_grant) (map (map (grant_of now)) ports)) (port_later now ts past.0)
    ∙ ap (λ gs. map (grant_of (now + 1)) ts ∷ gs) (grants_later now ports past.1)

-- It is in order.
pub in_order_later : (pod position now later : ℕ) (ports : List (List Tenancy)) (orders : Lists Pmac) → later ≡ now + 1 →
    AreInOrder pod position now ports orders →
    AreInOrder pod position later ports orders
in_order_later pod position now later ports orders next order = record {
  few = order.few;
  lists = order.lists;
  placed = order.placed;
  listed = order.listed;
  apart = order.apart;
  past = all_weaker (AllByRecursion (IsPast now)) (AllByRecursion (IsPast later))
      (all_weaker (IsPast now) (IsPast later) (λ t past. omega arith)) ports order.past;
  used = order.used;
  trapped = order.trapped;
}

-- Each address is older by one tick.
pub view_later : (pod position now later : ℕ) (ports : List (List Tenancy)) (orders : Lists Pmac) → later ≡ now + 1 → AreInOrder pod position now ports orders →
    (v : SwitchView) → address_table_in (table_view pod position later ports orders) v
    ≡ with_older (address_table_in (table_view pod position now ports orders) v)
view_later pod position now later ports orders next order v =
    ap (λ n. address_table_in (table_view pod position n ports orders) v) next
    ∙ ap (λ grants. record (address_table_in (table_view pod position now ports orders) v) { grants = grants }) (sym (grants_later now ports order.past))

later_by_one : (pod position now : ℕ) (ports : List (List Tenancy)) (orders : Lists Pmac) → AreInOrder pod position now ports orders → (list : ℕ) → list < 3 →
    AllByRecursion (λ x. ticks_in (table_view pod position (now + 1) ports orders) x
    ≡ ticks_in (table_view pod position now ports orders) x + 1) (addresses_in orders list)
later_by_one pod position now ports orders order list low =
    all_weaker (IsIn pod position ports list) (λ x. ticks_in (table_view pod position (now + 1) ports orders) x
    ≡ ticks_in (table_view pod position now ports orders) x + 1)
    (λ x is.
    let before = ticks_listed pod position now ports orders list x low is in
    let after = ticks_listed pod position (now + 1) ports orders list x low is in
    let past = since_below now ports order.past x in omega arith)
    (addresses_in orders list) (all_in pod position ports orders (are_listed pod position now ports orders order) list)

pub is_older : (pod position now later : ℕ) (ports : List (List Tenancy)) (orders : Lists Pmac) → later ≡ now + 1 → AreInOrder pod position now ports orders →
    IsOlder (table_view pod position now ports orders) (table_view pod position later ports orders)
is_older pod position now later ports orders next order =
    subst (λ n. IsOlder (table_view pod position now ports orders) (table_view pod position n ports orders)) (sym next)
    (record {
      of_used = all_append (λ x. ticks_in (table_view pod position (now + 1) ports orders) x ≡ ticks_in (table_view pod position now ports orders) x + 1)
          (addresses_in orders 1) (addresses_in orders 0)
          (later_by_one pod position now ports orders order 1 (omega arith)) (later_by_one pod position now ports orders order 0 (omega arith));
      of_trapped = later_by_one pod position now ports orders order 2 (omega arith);
      asked = refl;
      fresh = refl;
      trapped = refl;
    })

-- Whose an address is stays.

grantee_so : (x : Pmac) (n m : ℕ) (t : Tenancy) → grantee_at x (unless_free (Some (grant_of m t))) ≡ grantee_at x (unless_free (Some (grant_of n t)))
grantee_so x n m t = elim t.standing as (λ s.
    grantee_at x (unless_free (Some (record { amac = t.amac; ip = t.ip; held = use_after (m - t.since) s })))
    ≡ grantee_at x (unless_free (Some (record { amac = t.amac; ip = t.ip; held = use_after (n - t.since) s })))) [
      | Fresh ↦ refl
      | Asked ↦ refl
      | Trapped trap ↦ refl
      | Resting number ↦ refl
      | Free ↦ refl
    ]

grantee_then : (x : Pmac) (n m : ℕ) (here : Bool) (o : Option Tenancy) →
    grantee_at x (unless_free (cond here (option_map (grant_of m) o) None)) ≡ grantee_at x (unless_free (cond here (option_map (grant_of n) o) None))
grantee_then x n m false o = refl
grantee_then x n m true None = refl
grantee_then x n m true (Some t) = grantee_so x n m t

pub keeps_later : (pod position now later : ℕ) (ports : List (List Tenancy)) (orders : Lists Pmac) →
    KeepsGrants (table_view pod position now ports orders) (table_view pod position later ports orders)
keeps_later pod position now later ports orders = record {
  pod = refl;
  position = refl;
  ports = length-map ports (map (grant_of later)) ∙ sym (length-map ports (map (grant_of now)));
  grantees = λ x grantee found.
      ap (λ o. grantee_at x (unless_free o)) (granted_is pod position later ports orders x)
      ∙ grantee_then x now later (is_of pod position x) (tenancy_at ports x)
      ∙ sym (ap (λ o. grantee_at x (unless_free o)) (granted_is pod position now ports orders x)) ∙ found;
}
