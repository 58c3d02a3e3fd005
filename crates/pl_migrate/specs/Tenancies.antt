-- How an address table keeps what was granted: each address stands in one list of a pool, by what it is used for.
use Rattle.std.specs.Prelude.{◌≡◌, ◌≤◌, ℕ, ◌+◌, ◌-◌, ◌==◌, ◌&&◌, ◌⊎◌, Bool, true, false, if◌then◌else◌, List, [], ◌∷◌, ◌++◌, length, map, Option, Some, None, slice_get, slice_index_or}
use Rattle.std.specs.List.{AllByRecursion, IsDistinct}
use Rattle.pl_pmac.specs.declared.pmac.Pmac.{Pmac}
use Rattle.pl_layouts.specs.Equality.{same_pmac}
use Rattle.pl_node.specs.declared.address_use.AddressUse.{AddressUse}
use Rattle.pl_node.specs.declared.address_use.AddressUse.TheVariants as as_used
use Rattle.pl_node.specs.declared.switch_records.Grant.{Grant}
use Rattle.pl_node.specs.PortRecords.{ports_of_switch}
use Rattle.pl_pool.specs.declared.key.Key.{Key}
use Rattle.pl_pool.specs.Pool.{Lists, item_at, items_of, list_at}
use Rattle.pl_migrate.specs.declared.tenancy.Standing.{Standing}
use Rattle.pl_migrate.specs.declared.tenancy.Standing.TheVariants.{Fresh, Asked, Trapped, Resting, Free}
use Rattle.pl_migrate.specs.declared.tenancy.Tenancy.{Tenancy}
use Rattle.pl_migrate.specs.AddressTables.{AddressTableView}

-- its host has it in use
abbrev pub is_used_so : Standing → Bool
is_used_so Fresh = true
is_used_so Asked = true
is_used_so (Trapped trap) = false
is_used_so (Resting number) = false
is_used_so Free = false

-- what an address is used for, so many ticks after that began
abbrev pub use_after : ℕ → Standing → AddressUse
use_after ticks Fresh = as_used.InUse ticks
use_after ticks Asked = as_used.InUse ticks
use_after ticks (Trapped trap) = as_used.Trapped trap ticks
use_after ticks (Resting number) = as_used.Resting number
use_after ticks Free = as_used.Free

abbrev pub grant_of : ℕ → Tenancy → Grant
grant_of now t = record { amac = t.amac; ip = t.ip; held = use_after (now - t.since) t.standing }

-- the list in which an address of a port stands
abbrev pub list_of : ℕ → Standing → ℕ
list_of port Fresh = 0
list_of port Asked = 1
list_of port (Trapped trap) = 2
list_of port (Resting number) = 3
list_of port Free = 4 + port

-- the addresses of a list, in order
abbrev pub addresses_in : Lists Pmac → ℕ → List Pmac
addresses_in orders list = items_of (list_at orders list)

-- the vmids of the free addresses of a port
abbrev pub freed_in : Lists Pmac → ℕ → List ℕ
freed_in orders port = map (λ x. x.vmid) (addresses_in orders (4 + port))

abbrev pub table_view : ℕ → ℕ → ℕ → List (List Tenancy) → Lists Pmac → AddressTableView
table_view pod position now ports orders = record {
  pod = pod;
  position = position;
  grants = map (map (grant_of now)) ports;
  fresh = addresses_in orders 0;
  asked = addresses_in orders 1;
  trapped = addresses_in orders 2;
  freed = map (freed_in orders) (ports_of_switch (length ports));
}

-- what is kept of the address number vmid of a port
abbrev pub tenancy_number : List Tenancy → ℕ → Option Tenancy
tenancy_number tenancies vmid = if vmid == 0 then None else slice_get tenancies (vmid - 1)

abbrev pub tenancy_at : List (List Tenancy) → Pmac → Option Tenancy
tenancy_at ports x = tenancy_number (slice_index_or ports x.port []) x.vmid

abbrev pub is_of : ℕ → ℕ → Pmac → Bool
is_of pod position x = (pod == x.pod) && (position == x.position)

-- an address stands under a key in a list: it is one of this switch, it was granted, and that is its list
pub record StandsIn (pod position : ℕ) (ports : List (List Tenancy)) (list : ℕ) (pair : Key × Pmac) : Type 0 where
  pub here : is_of pod position pair.1 ≡ true
  pub tenancy : Tenancy
  pub found : tenancy_at ports pair.1 ≡ Some tenancy
  pub key : tenancy.key ≡ pair.0
  pub list_is : list ≡ list_of pair.1.port tenancy.standing

-- the tick since which an address is used so; 0 for one that was never granted
abbrev pub since_if : Option Tenancy → ℕ
since_if None = 0
since_if (Some tenancy) = tenancy.since

abbrev pub since_of : List (List Tenancy) → Pmac → ℕ
since_of ports x = since_if (tenancy_at ports x)

-- none since an earlier tick than those before it
abbrev pub DoRise : (Pmac → ℕ) → List Pmac → Type 0
DoRise since [] = Unit {0}
DoRise since (x ∷ xs) = AllByRecursion (λ y. since x ≤ since y) xs × DoRise since xs

-- no tick is to come yet
abbrev pub IsPast : ℕ → Tenancy → Type 0
IsPast now tenancy = tenancy.since ≤ now

-- Each address that was granted stands once in the list of its kind, under its key, and nothing else stands there. The lists of those in use, and of those
-- with a trap, have first what was used, or set, first.
pub record AreInOrder (pod position now : ℕ) (ports : List (List Tenancy)) (orders : Lists Pmac) : Type 0 where
  pub few : length ports ≤ 255
  pub lists : length orders.lists ≡ 4 + length ports
  pub placed : (x : Pmac) (tenancy : Tenancy) → is_of pod position x ≡ true → tenancy_at ports x ≡ Some tenancy →
      item_at (list_at orders (list_of x.port tenancy.standing)) tenancy.key ≡ Some x
  pub listed : (list : ℕ) → AllByRecursion (StandsIn pod position ports list) (list_at orders list)
  pub apart : (list : ℕ) → IsDistinct same_pmac (addresses_in orders list)
  pub past : AllByRecursion (AllByRecursion (IsPast now)) ports
  pub used : DoRise (since_of ports) (addresses_in orders 1 ++ addresses_in orders 0)
  pub trapped : DoRise (since_of ports) (addresses_in orders 2)

-- it has been used as it is for so many ticks
abbrev pub HasLasted : Tenancy → ℕ → ℕ → Type 0
HasLasted tenancy now ticks = ticks ≤ now - tenancy.since

-- the first of these addresses with what is kept of it, where its time has come; none where it has not, or there is none
abbrev pub IsDue : List (List Tenancy) → List Pmac → ℕ → ℕ → Option (Pmac × Tenancy) → Type 0
IsDue ports [] now ticks found = found ≡ None
IsDue ports (x ∷ xs) now ticks None = (tenancy : Tenancy) → tenancy_at ports x ≡ Some tenancy → HasLasted tenancy now ticks → ⊥
IsDue ports (x ∷ xs) now ticks (Some found) = (found.0 ≡ x) × (tenancy_at ports x ≡ Some found.1) × HasLasted found.1 now ticks

-- the next of the addresses that are to rest: of those in use the one that was used first, else of those with a trap the one that was set first
abbrev pub IsNext : List (List Tenancy) → Lists Pmac → ℕ → ℕ → Option (Pmac × Tenancy) → Type 0
IsNext ports orders now ticks None =
    IsDue ports (addresses_in orders 1) now ticks None × IsDue ports (addresses_in orders 0) now ticks None × IsDue ports (addresses_in orders 2) now ticks None
IsNext ports orders now ticks (Some found) =
    IsDue ports (addresses_in orders 1) now ticks (Some found)
    ⊎ ((IsDue ports (addresses_in orders 1) now ticks None × IsDue ports (addresses_in orders 0) now ticks (Some found))
    ⊎ (IsDue ports (addresses_in orders 1) now ticks None × IsDue ports (addresses_in orders 0) now ticks None
    × IsDue ports (addresses_in orders 2) now ticks (Some found)))
