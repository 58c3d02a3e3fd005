-- What stays in an address table, and what is true of each.
use Rattle.std.specs.Prelude.{◌≡◌, ◌≢◌, ◌<◌, ◌≤◌, ◌⊎◌, nat_lt, if◌then◌else◌, ℕ, ◌+◌, true, false, List, [], ◌∷◌, ◌++◌, length, Option, Some, None, All, Contains, fold, is_some, slice_get}
use Rattle.std.specs.List.{AllByRecursion}
use Rattle.pl_frame.specs.declared.address.Mac.{Mac}
use Rattle.pl_pmac.specs.declared.pmac.Pmac.{Pmac}
use Rattle.pl_node.specs.declared.trap.Trap.{Trap}
use Rattle.pl_node.specs.declared.acts.Act.TheVariants.{Tell}
use Rattle.pl_node.specs.declared.address_use.AddressUse.{AddressUse}
use Rattle.pl_node.specs.declared.address_use.AddressUse.TheVariants.{InUse, Trapped, Resting, Free}
use Rattle.pl_node.specs.AddressUses.{is_held}
use Rattle.pl_node.specs.declared.switch_records.Grant.{Grant}
use Rattle.pl_node.specs.declared.messages.ToManager.TheVariants.{Aged}
use Rattle.pl_node.specs.SwitchViews.{SwitchView}
use Rattle.pl_switch_rule.specs.Aging.{ages_out, ticks_to_probe, ticks_to_rest}
use Rattle.pl_switch_rule.specs.Granting.{granted, without}
use Rattle.pl_migrate.specs.declared.grantee.Grantee.{Grantee}
use Rattle.pl_migrate.specs.AddressTables.{AddressTableView, address_in_use, address_table_in, granted_in, grantee_in, held_in, is_address_in_use, trap_in, use_of}

-- It is the address table of the same edge switch, and each address that was somebody's stays the same host's at the same port.
pub record KeepsGrants (old new : AddressTableView) : Type 0 where
  pub pod : new.pod ≡ old.pod
  pub position : new.position ≡ old.position
  pub ports : length new.grants ≡ length old.grants
  pub grantees : (address : Pmac) (grantee : Grantee) → grantee_in old address ≡ Some grantee → grantee_in new address ≡ Some grantee

-- it is the address table of the same edge switch
pub record IsAtPlaceOf (old new : AddressTableView) : Type 0 where
  pub pod : new.pod ≡ old.pod
  pub position : new.position ≡ old.position
  pub ports : length new.grants ≡ length old.grants

-- for each address the trap that stood there stands there, and no other
abbrev pub KeepsTraps : AddressTableView → AddressTableView → Type 0
KeepsTraps old new = (address : Pmac) → trap_in new address ≡ trap_in old address

-- a host gets the address that it has in use at a port, or else one that is nobody's
abbrev pub IsGrantedOnce : AddressTableView → ℕ → Mac → Pmac → Type 0
IsGrantedOnce old port amac address =
    (address_in_use old port amac ≡ Some address)
    ⊎ ((address_in_use old port amac ≡ None) × (held_in old address ≡ None))

-- what was granted under the address that a port gives next, which has these free ones: it is free, or nothing was, and none is free
abbrev pub IsFreeOrNew : List ℕ → Option Grant → Type 0
IsFreeOrNew free None = free ≡ []
IsFreeOrNew free (Some grant) = is_held grant.held ≡ false

-- an address was granted to a host at a port, and is in use
pub record IsHostsOwn (address_table : AddressTableView) (port : ℕ) (amac : Mac) (address : Pmac) : Type 0 where
  pub grantee : grantee_in address_table address ≡ Some (record { amac = amac; port = port })
  pub used : is_address_in_use address_table address ≡ true

-- a trap with a larger number stays
abbrev pub newer_trap : Trap → Option Trap → Trap
newer_trap trap None = trap
newer_trap trap (Some standing) = if nat_lt trap.number standing.number then standing else trap

-- the trap that stands for an address behind one more that was set
abbrev pub sets_trap_on : Option Trap → Trap → Option Trap
sets_trap_on standing trap = Some (newer_trap trap standing)

-- and behind all that were set, one after another
abbrev pub trap_standing : List Trap → Option Trap
trap_standing traps = fold sets_trap_on None traps

-- a trap is one of these, and none of them has a larger number
pub record StandsOf (traps : List Trap) (trap : Trap) : Type 0 where
  pub among : Contains traps trap
  pub largest : All (λ (other : Trap). other.number ≤ trap.number) traps

-- ---- how old addresses are

-- for how many ticks an address has been used as it is
abbrev pub ticks_as : AddressUse → ℕ
ticks_as (InUse idle) = idle
ticks_as (Trapped trap age) = age
ticks_as (Resting number) = 0
ticks_as Free = 0

abbrev pub ticks_since : Option AddressUse → ℕ
ticks_since None = 0
ticks_since (Some held) = ticks_as held

abbrev pub ticks_in : AddressTableView → Pmac → ℕ
ticks_in address_table address = ticks_since (use_of (granted_in address_table address))

-- Nothing is due: no host has still to be asked, and no address to rest.
pub record IsCaughtUp (address_table : AddressTableView) : Type 0 where
  pub fresh : AllByRecursion (λ x. ticks_in address_table x < ticks_to_probe) address_table.fresh
  pub asked : AllByRecursion (λ x. (ticks_to_probe ≤ ticks_in address_table x) × (ticks_in address_table x < ticks_to_rest)) address_table.asked
  pub trapped : AllByRecursion (λ x. ticks_in address_table x < ticks_to_rest) address_table.trapped

-- in the order in which they fall due: none is older than those before it
abbrev pub DoFall : (Pmac → ℕ) → List Pmac → Type 0
DoFall ticks [] = Unit {0}
DoFall ticks (x ∷ xs) = AllByRecursion (λ y. ticks y ≤ ticks x) xs × DoFall ticks xs

-- those in use, and those with a trap, stand so
pub record FallDueInOrder (address_table : AddressTableView) : Type 0 where
  pub used : DoFall (ticks_in address_table) (address_table.asked ++ address_table.fresh)
  pub trapped : DoFall (ticks_in address_table) address_table.trapped
  pub all_used : AllByRecursion (λ x. is_address_in_use address_table x ≡ true) (address_table.asked ++ address_table.fresh)
  pub all_trapped : AllByRecursion (λ x. is_some (trap_in address_table x) ≡ true) address_table.trapped

-- The host of an address is to be asked: it is the first of those that were not asked since they used theirs last, and its time has come.
pub record IsToBeAsked (old new : AddressTableView) (address : Pmac) : Type 0 where
  pub first : old.fresh ≡ address ∷ new.fresh
  pub due : ticks_to_probe ≤ ticks_in old address
  pub becomes : new ≡ record old { fresh = new.fresh; asked = old.asked ++ address ∷ [] }

-- the first of some addresses, if there is one, has not been used as it is for so many ticks
abbrev pub IsYoung : AddressTableView → ℕ → List Pmac → Type 0
IsYoung address_table ticks [] = Unit {0}
IsYoung address_table ticks (x ∷ xs) = ticks_in address_table x < ticks

-- no address is to rest
pub record NothingIsDue (address_table : AddressTableView) : Type 0 where
  pub used : IsYoung address_table ticks_to_rest (address_table.asked ++ address_table.fresh)
  pub trapped : IsYoung address_table ticks_to_rest address_table.trapped

-- an address ages behind this number: 0 where it is in use, else that of its trap
abbrev pub AgesBehind : Option AddressUse → ℕ → Type 0
AgesBehind None number = ⊥
AgesBehind (Some (InUse idle)) number = number ≡ 0
AgesBehind (Some (Trapped trap age)) number = number ≡ trap.number
AgesBehind (Some (Resting other)) number = ⊥
AgesBehind (Some Free) number = ⊥

-- The next address whose time has come to rest: of those in use the one that was used first, else of those with a trap the one that was set first. It
-- stands there once.
pub record IsNextDue (address_table : AddressTableView) (address : Pmac) (number : ℕ) : Type 0 where
  pub due : ticks_to_rest ≤ ticks_in address_table address
  pub next : (slice_get (address_table.asked ++ address_table.fresh) 0 ≡ Some address) ⊎
      (IsYoung address_table ticks_to_rest (address_table.asked ++ address_table.fresh) × (slice_get address_table.trapped 0 ≡ Some address))
  pub behind : AgesBehind (use_of (granted_in address_table address)) number
  pub fewer : length (without address (address_table.asked ++ address_table.fresh)) + length (without address address_table.trapped) + 1
      ≡ length (address_table.asked ++ address_table.fresh) + length address_table.trapped

-- It comes to rest, and the manager is to be told that number.
pub record IsAged (old new : AddressTableView) (address : Pmac) (number : ℕ) : Type 0 where
  pub due : ticks_to_rest ≤ ticks_in old address
  pub next : (slice_get (old.asked ++ old.fresh) 0 ≡ Some address) ⊎
      (IsYoung old ticks_to_rest (old.asked ++ old.fresh) × (slice_get old.trapped 0 ≡ Some address))
  pub becomes : (v : SwitchView) → ages_out address (granted (address_table_in old v) address) (address_table_in old v)
      ≡ record { view = address_table_in new v; acts = Tell (Aged address number) ∷ [] }
  pub asked : new.asked ≡ without address old.asked
  pub fresh : new.fresh ≡ without address old.fresh
  pub trapped : new.trapped ≡ without address old.trapped
  pub fewer : length (new.asked ++ new.fresh) + length new.trapped + 1 ≡ length (old.asked ++ old.fresh) + length old.trapped
  pub others : (other : Pmac) → other ≢ address → granted_in new other ≡ granted_in old other

-- all are older by one tick, and stand in the same order
pub record IsOlder (old new : AddressTableView) : Type 0 where
  pub of_used : AllByRecursion (λ x. ticks_in new x ≡ ticks_in old x + 1) (old.asked ++ old.fresh)
  pub of_trapped : AllByRecursion (λ x. ticks_in new x ≡ ticks_in old x + 1) old.trapped
  pub asked : new.asked ≡ old.asked
  pub fresh : new.fresh ≡ old.fresh
  pub trapped : new.trapped ≡ old.trapped
