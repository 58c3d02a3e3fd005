-- What is kept of the addresses of a switch, where that of one of them changes, or comes.
use Rattle.std.proofs.Common.{◌≡◌, ◌<◌, ◌≤◌, ℕ, ◌+◌, ◌-◌, ◌==◌, ◌&&◌, Bool, true, false, cond, zero, suc, List, [], ◌∷◌, ◌++◌, length, map, Option, Some, None, get_or, refl, inl, inr, sym, ap, subst, ◌∙◌, arith}
use Rattle.std.specs.List.{AllByRecursion}
use Rattle.std.specs.Prelude.{slice_index_or, slice_set}
use Rattle.std.proofs.lemmas.Bool.{both_ways, cases_eq, cases_lt, eqb-true, and_parts}
use Rattle.std.proofs.lemmas.List.{get_or-set_other, get_or-set_same, get_or_past}
use Rattle.std.proofs.lemmas.Option.{same_Some}
use Rattle.pl_lemmas.proofs.Exports.{all_found, all_push}
use Rattle.pl_pmac.specs.declared.pmac.Pmac.{Pmac}
use Rattle.pl_layouts.specs.Equality.{same_pmac}
use Rattle.pl_layouts.proofs.Exports.{pmac_itself}
use Rattle.pl_migrate.specs.declared.tenancy.Tenancy.{Tenancy}
use Rattle.pl_migrate.specs.Orders.{with_tenancy}
use Rattle.pl_migrate.specs.Tenancies.{IsPast, is_of, tenancy_at}
use Rattle.pl_migrate.proofs.Numbers.{IsNumbered, at_number, is_numbered, number_next, number_not_next, number_past, number_set_other, number_set_same}
use Rattle.pl_migrate.proofs.Pairs.{IsOther}

-- Addresses of one switch.

abbrev address_of : ℕ → ℕ → ℕ → ℕ → Pmac
address_of pod position port vmid = record { pod = pod; position = position; port = port; vmid = vmid }

pub same_here : (pod position : ℕ) (a b : Pmac) → is_of pod position a ≡ true → is_of pod position b ≡ true → a.port ≡ b.port → a.vmid ≡ b.vmid → a ≡ b
same_here own_pod own_position a b here_a here_b port vmid =
    let a_parts = and_parts (own_pod == a.pod) (own_position == a.position) here_a in
    let b_parts = and_parts (own_pod == b.pod) (own_position == b.position) here_b in
    let pod : a.pod ≡ b.pod = sym (eqb-true own_pod a.pod a_parts.0) ∙ eqb-true own_pod b.pod b_parts.0 in
    let position : a.position ≡ b.position = sym (eqb-true own_position a.position a_parts.1) ∙ eqb-true own_position b.position b_parts.1 in
    ap (λ n. address_of n a.position a.port a.vmid) pod
    ∙ ap (λ n. address_of b.pod n a.port a.vmid) position
    ∙ ap (λ n. address_of b.pod b.position n a.vmid) port
    ∙ ap (λ n. address_of b.pod b.position b.port n) vmid

-- two of them have not the same port and the same vmid
pub apart_here : (pod position : ℕ) (x y : Pmac) → is_of pod position x ≡ true → is_of pod position y ≡ true → IsOther x y → y.port ≡ x.port →
    y.vmid ≡ x.vmid → ⊥
apart_here pod position x y here_x here_y other port vmid =
    both_ways (same_pmac y x) other (ap (λ a. same_pmac a x) (same_here pod position y x here_y here_x port vmid) ∙ pmac_itself x)

-- Lists of lists.

pub get_or_map : {X Y : Type 0} (f : X → Y) (xs : List X) (i : ℕ) (d : X) → get_or (map f xs) i (f d) ≡ f (get_or xs i d)
get_or_map f [] i d = refl
get_or_map f (x ∷ xs) zero d = refl
get_or_map f (x ∷ xs) (suc i) d = get_or_map f xs i d

pub all_set : {X : Type 0} (P : X → Type 0) (xs : List X) (i : ℕ) (x : X) → P x → AllByRecursion P xs → AllByRecursion P (slice_set xs i x)
all_set P [] i x is all = tt
all_set P (y ∷ ys) zero x is all = (is, all.1)
all_set P (y ∷ ys) (suc i) x is all = (all.0, all_set P ys i x is all.1)

pub all_index : {X : Type 0} (P : X → Type 0) (xs : List X) (i : ℕ) (d : X) → P d → AllByRecursion P xs → P (get_or xs i d)
all_index P [] i d is all = is
all_index P (x ∷ xs) zero d is all = all.0
all_index P (x ∷ xs) (suc i) d is all = all_index P xs i d is all.1

-- What is kept of an address.

abbrev pub tenancies_of : List (List Tenancy) → ℕ → List Tenancy
tenancies_of ports port = slice_index_or ports port []

pub record IsKept (ports : List (List Tenancy)) (x : Pmac) (tenancy : Tenancy) : Type 0 where
  pub within : x.port < length ports
  pub number : IsNumbered (tenancies_of ports x.port) x.vmid tenancy

none_past : (ports : List (List Tenancy)) (port vmid : ℕ) → length ports ≤ port → at_number (tenancies_of ports port) vmid ≡ None
none_past ports port vmid past =
    ap (λ (ts : List Tenancy). at_number ts vmid) (get_or_past ports port [] past)
    ∙ elim (vmid == 0) as (λ b. ◌≡◌ {A = Option Tenancy} (cond b None None) None) [ true ↦ refl | false ↦ refl ]

pub is_kept : (ports : List (List Tenancy)) (x : Pmac) (tenancy : Tenancy) → tenancy_at ports x ≡ Some tenancy → IsKept ports x tenancy
is_kept ports x tenancy found = record {
  within = elim (cases_lt x.port (length ports)) [
    | inl within ↦ within
    | inr past ↦ absurd (let none = none_past ports x.port x.vmid past in let e = sym none ∙ found in cc)
  ];
  number = is_numbered (tenancies_of ports x.port) x.vmid tenancy found;
}

pub past_of : (now : ℕ) (ports : List (List Tenancy)) (x : Pmac) (tenancy : Tenancy) → AllByRecursion (AllByRecursion (IsPast now)) ports →
    tenancy_at ports x ≡ Some tenancy → tenancy.since ≤ now
past_of now ports x tenancy all found =
    all_found (IsPast now) (tenancies_of ports x.port) (x.vmid - 1) tenancy
    (all_index (AllByRecursion (IsPast now)) ports x.port [] tt all) (is_kept ports x tenancy found).number.at

-- It changes.

-- of one address this is kept, and of all others the same as before
pub record IsSet (before after : List (List Tenancy)) (x : Pmac) (tenancy : Tenancy) : Type 0 where
  pub there : tenancy_at after x ≡ Some tenancy
  pub others : (y : Pmac) → (y.port ≡ x.port → y.vmid ≡ x.vmid → ⊥) → tenancy_at after y ≡ tenancy_at before y

pub port_same : (ports : List (List Tenancy)) (port : ℕ) (tenancies : List Tenancy) → port < length ports →
    tenancies_of (slice_set ports port tenancies) port ≡ tenancies
port_same ports port tenancies within = get_or-set_same ports port tenancies [] within

pub port_other : (ports : List (List Tenancy)) (port other : ℕ) (tenancies : List Tenancy) → (other ≡ port → ⊥) →
    tenancies_of (slice_set ports port tenancies) other ≡ tenancies_of ports other
port_other ports port other tenancies apart = get_or-set_other ports port other tenancies [] apart

set_at_port : (ports : List (List Tenancy)) (x : Pmac) (tenancies : List Tenancy) (new : Tenancy) → x.port < length ports →
    at_number tenancies x.vmid ≡ Some new →
    ((vmid : ℕ) → (vmid ≡ x.vmid → ⊥) → at_number tenancies vmid ≡ at_number (tenancies_of ports x.port) vmid) →
    IsSet ports (slice_set ports x.port tenancies) x new
set_at_port ports x tenancies new within there others = record {
  there = ap (λ (ts : List Tenancy). at_number ts x.vmid) (port_same ports x.port tenancies within) ∙ there;
  others = λ y apart. elim (cases_eq y.port x.port) [
    | inl same ↦
        ap (λ n. at_number (tenancies_of (slice_set ports x.port tenancies) n) y.vmid) same
        ∙ ap (λ (ts : List Tenancy). at_number ts y.vmid) (port_same ports x.port tenancies within)
        ∙ others y.vmid (apart same) ∙ sym (ap (λ n. at_number (tenancies_of ports n) y.vmid) same)
    | inr away ↦ ap (λ (ts : List Tenancy). at_number ts y.vmid) (port_other ports x.port y.port tenancies away)
  ];
}

pub set_in_place : (ports : List (List Tenancy)) (x : Pmac) (old new : Tenancy) → tenancy_at ports x ≡ Some old → IsSet ports (with_tenancy ports x new) x new
set_in_place ports x old new found =
    let is = is_kept ports x old found in
    set_at_port ports x (slice_set (tenancies_of ports x.port) (x.vmid - 1) new) new is.within
    (number_set_same (tenancies_of ports x.port) x.vmid old new found)
    (λ vmid apart. number_set_other (tenancies_of ports x.port) x.vmid vmid new is.number.first apart)

pub set_behind : (ports : List (List Tenancy)) (x : Pmac) (new : Tenancy) → x.port < length ports → x.vmid ≡ length (tenancies_of ports x.port) + 1 →
    IsSet ports (slice_set ports x.port (tenancies_of ports x.port ++ new ∷ [])) x new
set_behind ports x new within next =
    set_at_port ports x (tenancies_of ports x.port ++ new ∷ []) new within
    (number_next (tenancies_of ports x.port) new x.vmid next)
    (λ vmid apart. number_not_next (tenancies_of ports x.port) new vmid (λ e. apart (e ∙ sym next)))

-- the one behind the last was never granted
pub next_is_new : (ports : List (List Tenancy)) (x : Pmac) → x.vmid ≡ length (tenancies_of ports x.port) + 1 → tenancy_at ports x ≡ None
next_is_new ports x next = number_past (tenancies_of ports x.port) x.vmid (omega arith)

pub past_in_place : (now : ℕ) (ports : List (List Tenancy)) (x : Pmac) (new : Tenancy) → new.since ≤ now → AllByRecursion (AllByRecursion (IsPast now)) ports →
    AllByRecursion (AllByRecursion (IsPast now)) (with_tenancy ports x new)
past_in_place now ports x new past all =
    all_set (AllByRecursion (IsPast now)) ports x.port (slice_set (tenancies_of ports x.port) (x.vmid - 1) new)
    (all_set (IsPast now) (tenancies_of ports x.port) (x.vmid - 1) new past (all_index (AllByRecursion (IsPast now)) ports x.port [] tt all)) all

pub past_behind : (now : ℕ) (ports : List (List Tenancy)) (port : ℕ) (new : Tenancy) → new.since ≤ now → AllByRecursion (AllByRecursion (IsPast now)) ports →
    AllByRecursion (AllByRecursion (IsPast now)) (slice_set ports port (tenancies_of ports port ++ new ∷ []))
past_behind now ports port new past all =
    all_set (AllByRecursion (IsPast now)) ports port (tenancies_of ports port ++ new ∷ [])
    (all_push (IsPast now) (tenancies_of ports port) new (all_index (AllByRecursion (IsPast now)) ports port [] tt all) past) all

-- what is read of an address
pub found_in : (ports slice : List (List Tenancy)) (x : Pmac) (read is : Option Tenancy) → read ≡ tenancy_at slice x → slice ≡ ports → read ≡ is →
    tenancy_at ports x ≡ is
found_in ports slice x read is found same reads = sym (ap (λ (ps : List (List Tenancy)). tenancy_at ps x) same) ∙ sym found ∙ reads
