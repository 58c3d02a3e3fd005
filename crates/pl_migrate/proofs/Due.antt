-- Which addresses of a table are due, and that they stand first.
use Rattle.std.proofs.Common.{◌≡◌, ◌<◌, ◌≤◌, ◌⊎◌, ℕ, zero, suc, ◌+◌, ◌-◌, true, false, not, List, [], ◌∷◌, ◌++◌, length, Option, Some, None, refl, inl, inr, sym, ap, subst, ◌∙◌, arith}
use Rattle.std.specs.List.{AllByRecursion, IsDistinct, slice_get}
use Rattle.std.specs.Option.{MatchOption}
use Rattle.std.proofs.lemmas.Bool.{cases_lt}
use Rattle.std.proofs.lemmas.List.{length-append}
use Rattle.std.proofs.lemmas.List.Elements.{filter-append}
use Rattle.std.proofs.lemmas.Option.{same_Some}
use Rattle.pl_lemmas.proofs.Exports.{all_behind}
use Rattle.pl_pmac.specs.declared.pmac.Pmac.{Pmac}
use Rattle.pl_layouts.specs.Equality.{same_pmac}
use Rattle.pl_node.specs.declared.address_use.AddressUse.{AddressUse}
use Rattle.pl_pool.specs.Pool.{Lists}
use Rattle.pl_switch_rule.specs.Aging.{ticks_to_probe, ticks_to_rest}
use Rattle.pl_switch_rule.specs.Granting.{without}
use Rattle.pl_migrate.specs.AddressTables.{AddressTableView, granted_in, use_of}
use Rattle.pl_migrate.specs.Keeping.{AgesBehind, IsNextDue, IsYoung, NothingIsDue, ticks_in}
use Rattle.pl_migrate.specs.Standings.{number_behind}
use Rattle.pl_migrate.specs.declared.tenancy.Standing.{Standing}
use Rattle.pl_migrate.specs.declared.tenancy.Standing.TheVariants.{Fresh, Asked, Trapped, Resting, Free}
use Rattle.pl_migrate.specs.declared.tenancy.Tenancy.{Tenancy}
use Rattle.pl_migrate.specs.Tenancies.{AreInOrder, DoRise, HasLasted, IsDue, IsNext, addresses_in, grant_of, is_of, list_of, since_if, since_of, table_view, tenancy_at, use_after}
use Rattle.pl_migrate.proofs.Ages.{IsIn, all_in, granted_of, ticks_listed}
use Rattle.pl_migrate.proofs.Listed.{absent_elsewhere, are_listed}
use Rattle.pl_migrate.proofs.Pairs.{without_first}

-- The first of a list.

pub record IsFirstDue (ports : List (List Tenancy)) (xs : List Pmac) (now ticks : ℕ) (found : Pmac × Tenancy) : Type 0 where
  pub rest : List Pmac
  pub first : xs ≡ found.0 ∷ rest
  pub tenancy : tenancy_at ports found.0 ≡ Some found.1
  pub lasted : ticks ≤ now - found.1.since

pub first_due : (ports : List (List Tenancy)) (xs : List Pmac) (now ticks : ℕ) (found : Pmac × Tenancy) → IsDue ports xs now ticks (Some found) →
    IsFirstDue ports xs now ticks found
first_due ports [] now ticks found due = absurd (let e : ◌≡◌ {A = Option (Pmac × Tenancy)} (Some found) None = due in cc)
first_due ports (x ∷ xs) now ticks found due = record {
  rest = xs;
  first = ap (λ y. y ∷ xs) (sym due.0);
  tenancy = ap (tenancy_at ports) due.0 ∙ due.1;
  lasted = due.2;
}

pub none_due : (pod position now : ℕ) (ports : List (List Tenancy)) (orders : Lists Pmac) (list ticks : ℕ) (xs : List Pmac) → list < 3 →
    AllByRecursion (IsIn pod position ports list) xs → IsDue ports xs now ticks None → IsYoung (table_view pod position now ports orders) ticks xs
none_due pod position now ports orders list ticks [] low all due = tt
none_due pod position now ports orders list ticks (x ∷ xs) low all due = elim (cases_lt (now - all.0.tenancy.since) ticks) [
  | inl young ↦
      let is = ticks_listed pod position now ports orders list x low all.0 in
      let since = ap since_if all.0.found in omega arith
  | inr lasted ↦ absurd (due all.0.tenancy all.0.found lasted)
]

young_behind : (table : AddressTableView) (ticks : ℕ) (xs ys : List Pmac) → IsYoung table ticks xs → IsYoung table ticks ys → IsYoung table ticks (xs ++ ys)
young_behind table ticks [] ys young later = later
young_behind table ticks (x ∷ xs) ys young later = young

-- The number behind which an address ages.

ages_behind : (n list port : ℕ) (standing : Standing) → list < 3 → list ≡ list_of port standing →
    AgesBehind (Some (use_after n standing)) (number_behind standing)
ages_behind n list port Fresh low is = refl
ages_behind n list port Asked low is = refl
ages_behind n list port (Trapped trap) low is = refl
ages_behind n list port (Resting number) low is = absurd (omega arith)
ages_behind n list port Free low is = absurd (omega arith)

module _ (pod position now : ℕ) (ports : List (List Tenancy)) (orders : Lists Pmac) (order : AreInOrder pod position now ports orders) where
  abbrev table : AddressTableView
  table = table_view pod position now ports orders

  abbrev asked : List Pmac
  asked = addresses_in orders 1

  abbrev fresh : List Pmac
  fresh = addresses_in orders 0

  abbrev trapped : List Pmac
  trapped = addresses_in orders 2

  pub listed_in : (list : ℕ) → AllByRecursion (IsIn pod position ports list) (addresses_in orders list)
  listed_in list = all_in pod position ports orders (are_listed pod position now ports orders order) list

  pub young_in : (list : ℕ) → list < 3 → (ticks : ℕ) → IsDue ports (addresses_in orders list) now ticks None → IsYoung table ticks (addresses_in orders list)
  young_in list low ticks due = none_due pod position now ports orders list ticks (addresses_in orders list) low (listed_in list) due

  -- what the first of a list is
  pub first_is_in : (list : ℕ) (x : Pmac) (rest : List Pmac) → addresses_in orders list ≡ x ∷ rest → IsIn pod position ports list x
  first_is_in list x rest first = (subst (AllByRecursion (IsIn pod position ports list)) first (listed_in list)).0

  away : (list other : ℕ) (x : Pmac) (rest : List Pmac) → addresses_in orders list ≡ x ∷ rest → (other ≡ list → ⊥) →
      without x (addresses_in orders other) ≡ addresses_in orders other
  away list other x rest first apart =
      let is = first_is_in list x rest first in
      absent_elsewhere pod position ports orders x is.tenancy (are_listed pod position now ports orders order) is.found other (λ e. apart (e ∙ sym is.list_is))

  one_less : (list : ℕ) (x : Pmac) (rest : List Pmac) → addresses_in orders list ≡ x ∷ rest →
      length (without x (addresses_in orders list)) + 1 ≡ length (addresses_in orders list)
  one_less list x rest first =
      ap (λ xs. length (without x xs) + 1) first
      ∙ ap (λ xs. length xs + 1) (without_first x rest (subst (IsDistinct same_pmac) first (order.apart list)))
      ∙ let e : length rest + 1 ≡ length (x ∷ rest) = omega arith in e ∙ sym (ap length first)

  parts : (x : Pmac) → length (without x (asked ++ fresh)) ≡ length (without x asked) + length (without x fresh)
  parts x = ap length (filter-append (λ other. not (same_pmac other x)) asked fresh) ∙ length-append (without x asked) (without x fresh)

  -- it stands in one list, once
  abbrev StandsOnce : Pmac → Type 0
  StandsOnce x = length (without x (asked ++ fresh)) + length (without x trapped) + 1 ≡ length (asked ++ fresh) + length trapped

  once_asked : (x : Pmac) (rest : List Pmac) → asked ≡ x ∷ rest → StandsOnce x
  once_asked x rest first =
      let less = one_less 1 x rest first in
      let f = ap length (away 1 0 x rest first (λ e. omega arith)) in
      let t = ap length (away 1 2 x rest first (λ e. omega arith)) in
      let whole = length-append asked fresh in
      let now_parts = parts x in omega arith

  once_fresh : (x : Pmac) (rest : List Pmac) → fresh ≡ x ∷ rest → StandsOnce x
  once_fresh x rest first =
      let less = one_less 0 x rest first in
      let a = ap length (away 0 1 x rest first (λ e. omega arith)) in
      let t = ap length (away 0 2 x rest first (λ e. omega arith)) in
      let whole = length-append asked fresh in
      let now_parts = parts x in omega arith

  once_trapped : (x : Pmac) (rest : List Pmac) → trapped ≡ x ∷ rest → StandsOnce x
  once_trapped x rest first =
      let less = one_less 2 x rest first in
      let a = ap length (away 2 1 x rest first (λ e. omega arith)) in
      let f = ap length (away 2 0 x rest first (λ e. omega arith)) in
      let whole = length-append asked fresh in
      let now_parts = parts x in omega arith

  -- how old the first of a list is, and behind which number it ages
  pub lasted_in : (list ticks : ℕ) (found : Pmac × Tenancy) → list < 3 → (due : IsFirstDue ports (addresses_in orders list) now ticks found) →
      ticks ≤ ticks_in table found.0
  lasted_in list ticks found low due =
      let is = ticks_listed pod position now ports orders list found.0 low (first_is_in list found.0 due.rest due.first) in
      let since = ap since_if due.tenancy in
      let lasted = due.lasted in omega arith

  behind_in : (list ticks : ℕ) (found : Pmac × Tenancy) → list < 3 → (due : IsFirstDue ports (addresses_in orders list) now ticks found) →
      AgesBehind (use_of (granted_in table found.0)) (number_behind found.1.standing)
  behind_in list ticks found low due =
      let is = first_is_in list found.0 due.rest due.first in
      let same : is.tenancy ≡ found.1 = same_Some _ _ (sym is.found ∙ due.tenancy) in
      subst (λ o. AgesBehind (use_of o) (number_behind found.1.standing))
      (sym (granted_of pod position now ports orders found.0 found.1 is.here due.tenancy))
      (ages_behind (now - found.1.since) list found.0.port found.1.standing low (is.list_is ∙ ap (λ (t : Tenancy). list_of found.0.port t.standing) same))

  -- where one is due that was not asked, there is none that was
  none_asked : (found : Pmac × Tenancy) (xs : List Pmac) → IsFirstDue ports fresh now ticks_to_rest found → AllByRecursion (IsIn pod position ports 1) xs →
      IsYoung table ticks_to_rest xs → DoRise (since_of ports) (xs ++ fresh) → slice_get (xs ++ fresh) 0 ≡ Some found.0
  none_asked found [] due all young rises = ap (λ xs. slice_get xs 0) due.first
  none_asked found (x ∷ xs) due all young rises = absurd (
      let is = ticks_listed pod position now ports orders 1 x (omega arith) all.0 in
      let later = all_behind (λ y. since_of ports x ≤ since_of ports y) xs fresh rises.0 in
      let earlier = (subst (AllByRecursion (λ y. since_of ports x ≤ since_of ports y)) due.first later).0 in
      let since = ap since_if due.tenancy in
      let lasted = due.lasted in omega arith)

  pub next_is_due : (found : Pmac × Tenancy) → IsNext ports orders now ticks_to_rest (Some found) → IsNextDue table found.0 (number_behind found.1.standing)
  next_is_due found (inl asked_due) = let due = first_due ports asked now ticks_to_rest found asked_due in record {
    due = lasted_in 1 ticks_to_rest found (omega arith) due;
    next = inl (ap (λ xs. slice_get (xs ++ fresh) 0) due.first);
    behind = behind_in 1 ticks_to_rest found (omega arith) due;
    fewer = once_asked found.0 due.rest due.first;
  }
  next_is_due found (inr (inl both)) = let due = first_due ports fresh now ticks_to_rest found both.1 in record {
    due = lasted_in 0 ticks_to_rest found (omega arith) due;
    next = inl (none_asked found asked due (listed_in 1) (young_in 1 (omega arith) ticks_to_rest both.0) order.used);
    behind = behind_in 0 ticks_to_rest found (omega arith) due;
    fewer = once_fresh found.0 due.rest due.first;
  }
  next_is_due found (inr (inr all)) = let due = first_due ports trapped now ticks_to_rest found all.2 in record {
    due = lasted_in 2 ticks_to_rest found (omega arith) due;
    next = inr (
      young_behind table ticks_to_rest asked fresh (young_in 1 (omega arith) ticks_to_rest all.0) (young_in 0 (omega arith) ticks_to_rest all.1),
      ap (λ xs. slice_get xs 0) due.first,
    );
    behind = behind_in 2 ticks_to_rest found (omega arith) due;
    fewer = once_trapped found.0 due.rest due.first;
  }

  pub nothing_is_due : IsNext ports orders now ticks_to_rest None → NothingIsDue table
  nothing_is_due none = record {
    used = young_behind table ticks_to_rest asked fresh (young_in 1 (omega arith) ticks_to_rest none.0) (young_in 0 (omega arith) ticks_to_rest none.1);
    trapped = young_in 2 (omega arith) ticks_to_rest none.2;
  }

-- seen as the table that it is of
pub due_shown : (shown table : AddressTableView) (x : Pmac) (n number : ℕ) → shown ≡ table → n ≡ number → IsNextDue shown x number → IsNextDue table x n
due_shown shown table x n number view same due = subst (λ t. IsNextDue t x n) view (subst (IsNextDue shown x) (sym same) due)
