-- An address is taken out of one list and put behind another.
use Rattle.std.proofs.Common.{◌≡◌, ◌<◌, ◌≤◌, ℕ, ◌+◌, ◌-◌, ◌||◌, Bool, true, false, cond, List, [], ◌∷◌, ◌++◌, length, Option, Some, None, refl, sym, ap, subst, ◌∙◌}
use Rattle.std.specs.List.{find, list_any, slice_get}
use Rattle.std.specs.Option.{option_map}
use Rattle.std.specs.Prelude.{slice_set}
use Rattle.std.proofs.lemmas.List.{length-set}
use Rattle.std.proofs.lemmas.Option.{same_Some}
use Rattle.pl_frame.specs.declared.address.Ip4.{Ip4}
use Rattle.pl_frame.specs.declared.address.Mac.{Mac}
use Rattle.pl_pmac.specs.declared.pmac.Pmac.{Pmac}
use Rattle.pl_pool.specs.declared.key.Key.{Key}
use Rattle.pl_pool.specs.Pool.{IsFree, Lists, first_key, has_key, is_under, item_at, items_of, list_at}
use Rattle.pl_migrate.specs.Orders.{IsChanged, IsEntered, IsMoved, taken_out}
use Rattle.pl_migrate.specs.PortGrants.{TakesPlaceOf}
use Rattle.pl_migrate.specs.declared.tenancy.Standing.TheVariants.{Fresh}
use Rattle.pl_migrate.specs.declared.tenancy.Tenancy.{Tenancy}
use Rattle.pl_migrate.specs.Tenancies.{IsDue, list_of, tenancy_at, tenancy_number}
use Rattle.pl_migrate.proofs.Entries.{tenancies_of}
use Rattle.pl_migrate.proofs.Pairs.{found_of_first}
use Rattle.pl_migrate.proofs.Stands.{written}

pub still_there : (before left : Lists Pmac) (from to : ℕ) (key : Key) (x : Pmac) → left ≡ taken_out before from key → to < length before.lists →
    to < length left.lists
still_there before left from to key x is within =
    subst (λ n. to < n) (sym (ap (λ (o : Lists Pmac). length o.lists) is ∙ length-set before.lists from _)) within

found_under : (key : Key) (pairs : List (Key × Pmac)) → has_key pairs key ≡ true → item_at pairs key ≡ None → ⊥
found_under key [] = λ there none. let e = there in cc
found_under key (pair ∷ pairs) = elim (is_under key pair) as (λ b.
    (b || list_any (is_under key) pairs) ≡ true → option_map (λ (p : Key × Pmac). p.1) (cond b (Some pair) (find (is_under key) pairs)) ≡ None → ⊥) [
      | true ↦ λ there none. let e = none in cc
      | false ↦ found_under key pairs
    ]

pub none_there : (before : Lists Pmac) (from : ℕ) (key : Key) → has_key (list_at before from) key ≡ true → item_at (list_at before from) key ≡ None → ⊥
none_there before from key there none = found_under key (list_at before from) there none

pub moved : (before left after : Lists Pmac) (from : ℕ) (old : Key) (to : ℕ) (new : Key) (x y : Pmac) → item_at (list_at before from) old ≡ Some x →
    item_at (list_at before from) old ≡ Some y → left ≡ taken_out before from old →
    after.lists ≡ slice_set left.lists to (list_at left to ++ (new, y) ∷ []) → IsFree left new →
    IsMoved before after from old to new x
moved before left after from old to new x y there is out put free =
    let same : y ≡ x = same_Some _ _ (sym is ∙ there) in
    record {
      lists = put ∙ ap (λ (a : Pmac). slice_set left.lists to (list_at left to ++ (new, a) ∷ [])) same
          ∙ ap (λ (o : Lists Pmac). slice_set o.lists to (list_at o to ++ (new, x) ∷ [])) out;
      free = subst (λ (o : Lists Pmac). IsFree o new) out free;
    }

pub has_key_of : (pairs : List (Key × Pmac)) (key : Key) (x : Pmac) → item_at pairs key ≡ Some x → has_key pairs key ≡ true
has_key_of [] key x = λ found. absurd (let e = found in cc)
has_key_of (pair ∷ pairs) key x = elim (is_under key pair) as (λ b.
    option_map (λ (p : Key × Pmac). p.1) (cond b (Some pair) (find (is_under key) pairs)) ≡ Some x → (b || list_any (is_under key) pairs) ≡ true) [
      | true ↦ λ found. refl
      | false ↦ has_key_of pairs key x
    ]

-- What is kept of the address goes with it.

pub placed_fits : (ports : List (List Tenancy)) (x : Pmac) (old new : Tenancy) (key : Key) (ts : List Tenancy) → ts ≡ tenancies_of ports x.port →
    tenancy_at ports x ≡ Some old →
    TakesPlaceOf (tenancies_of ports x.port) new (Some old) → TakesPlaceOf ts (record new { key = key }) (tenancy_number ts x.vmid)
placed_fits ports x old new key ts is found fits =
    subst (λ (us : List Tenancy). TakesPlaceOf us (record new { key = key }) (tenancy_number us x.vmid)) (sym is)
    (subst (TakesPlaceOf (tenancies_of ports x.port) (record new { key = key })) (sym found) fits)

pub changed : (ports : List (List Tenancy)) (before after : Lists Pmac) (x : Pmac) (old new : Tenancy) (key : Key) (n : ℕ) (ts more : List Tenancy)
    (from to : ℕ) →
    from ≡ list_of x.port old.standing → to ≡ list_of x.port new.standing → item_at (list_at before (list_of x.port old.standing)) old.key ≡ Some x →
    ((y : Pmac) → item_at (list_at before from) old.key ≡ Some y → IsMoved before after from old.key to key y) → n ≡ x.port → ts ≡ tenancies_of ports x.port →
    more ≡ slice_set ts (x.vmid - 1) (record new { key = key }) → IsChanged ports (slice_set ports n more) before after x old new
changed ports before after x old new key n ts more from to is_from is_to placed moves at is set = record {
  key = key;
  ports = written ports n x ts more (record new { key = key }) at is set;
  moved = subst (λ m. IsMoved before after m old.key (list_of x.port new.standing) key x) is_from
      (subst (λ m. IsMoved before after from old.key m key x) is_to (moves x (ap (λ m. item_at (list_at before m) old.key) is_from ∙ placed)));
}

pub entered : (before after : List Tenancy) (orders_before orders_after : Lists Pmac) (x : Pmac) (amac : Mac) (ip : Option Ip4) (now : ℕ) (key : Key) →
    after ≡ before ++ record { amac = amac; ip = ip; standing = Fresh; since = now; key = key } ∷ [] →
    orders_after ≡ record { lists = slice_set orders_before.lists 0 (list_at orders_before 0 ++ (key, x) ∷ []); spare = orders_before.spare - 1 } →
    IsFree orders_before key →
    IsEntered before after orders_before orders_after x amac ip now
entered before after orders_before orders_after x amac ip now key is lists free = record {
  key = key;
  tenancies = is;
  lists = ap (λ (o : Lists Pmac). o.lists) lists;
  free = free;
}

-- The first of a list.

pub no_first : (pairs : List (Key × Pmac)) → first_key pairs ≡ None → slice_get (items_of pairs) 0 ≡ None
no_first [] none = refl
no_first (pair ∷ pairs) none = absurd (let e = none in cc)

pub first_item : (pairs : List (Key × Pmac)) (key : Key) → first_key pairs ≡ Some key → item_at pairs key ≡ slice_get (items_of pairs) 0
first_item [] key first = absurd (let e = first in cc)
first_item (pair ∷ pairs) key first = ap (item_at (pair ∷ pairs)) (sym (same_Some _ _ first)) ∙ found_of_first pair pairs

-- and when it is due
pub none_due_of_none : (ports : List (List Tenancy)) (xs : List Pmac) (now ticks : ℕ) (x : Pmac) → slice_get xs 0 ≡ Some x → tenancy_at ports x ≡ None →
    IsDue ports xs now ticks None
none_due_of_none ports [] now ticks x first none = refl
none_due_of_none ports (y ∷ ys) now ticks x first none = λ tenancy found lasted.
    let e = sym none ∙ sym (ap (tenancy_at ports) (same_Some _ _ first)) ∙ found in cc

pub due_of_first : (ports : List (List Tenancy)) (xs : List Pmac) (now ticks : ℕ) (x : Pmac) (t : Tenancy) → slice_get xs 0 ≡ Some x →
    tenancy_at ports x ≡ Some t →
    ticks ≤ now - t.since → IsDue ports xs now ticks (Some (x, t))
due_of_first ports [] now ticks x t first found lasted = absurd (let e = first in cc)
due_of_first ports (y ∷ ys) now ticks x t first found lasted =
    let same : y ≡ x = same_Some _ _ first in (sym same, ap (tenancy_at ports) same ∙ found, lasted)

pub young_of_first : (ports : List (List Tenancy)) (xs : List Pmac) (now ticks : ℕ) (x : Pmac) (t : Tenancy) → slice_get xs 0 ≡ Some x →
    tenancy_at ports x ≡ Some t →
    (ticks ≤ now - t.since → ⊥) → IsDue ports xs now ticks None
young_of_first ports [] now ticks x t first found young = refl
young_of_first ports (y ∷ ys) now ticks x t first found young = λ tenancy is lasted.
    let same : tenancy ≡ t = same_Some _ _ (sym is ∙ ap (tenancy_at ports) (same_Some _ _ first) ∙ found) in
    young (subst (λ (u : Tenancy). ticks ≤ now - u.since) same lasted)

pub none_due_of_empty : (ports : List (List Tenancy)) (xs : List Pmac) (now ticks : ℕ) → slice_get xs 0 ≡ None → IsDue ports xs now ticks None
none_due_of_empty ports [] now ticks none = refl
none_due_of_empty ports (y ∷ ys) now ticks none = absurd (let e = none in cc)
