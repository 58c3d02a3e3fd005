-- What is kept of the addresses that were granted at one port.
use Rattle.std.specs.Prelude.{◌≡◌, ◌≤◌, ℕ, ◌&&◌, ◌⊎◌, Bool, true, false, List, [], ◌∷◌, length, Option, Some, None}
use Rattle.std.specs.List.{list_any, position_from}
use Rattle.pl_frame.specs.declared.address.Mac.{Mac}
use Rattle.pl_layouts.specs.Equality.{same_mac}
use Rattle.pl_migrate.specs.declared.tenancy.Tenancy.{Tenancy}
use Rattle.pl_migrate.specs.Tenancies.{is_used_so}

-- a host has this address in use
abbrev pub is_used_by : Mac → Tenancy → Bool
is_used_by amac tenancy = is_used_so tenancy.standing && same_mac tenancy.amac amac

-- the vmid of the address that a host has in use
abbrev pub used_vmid : List Tenancy → Mac → Option ℕ
used_vmid tenancies amac = position_from (is_used_by amac) 1 tenancies

abbrev pub AtMostOne : {T : Type 0} → (T → Bool) → List T → Type 0
AtMostOne test [] = Unit {0}
AtMostOne test (x ∷ xs) = (test x ≡ true → list_any test xs ≡ false) × AtMostOne test xs

-- vmids have 16 bits and begin at 1, and no host has two addresses in use
pub record ArePortGrants (tenancies : List Tenancy) : Type 0 where
  pub numbered : length tenancies ≤ 65535
  pub one_each : (amac : Mac) → AtMostOne (is_used_by amac) tenancies

-- one may stand where another stood: it is in use only where that one was, by the same host, or where that host has none in use
abbrev pub TakesPlaceOf : List Tenancy → Tenancy → Option Tenancy → Type 0
TakesPlaceOf tenancies new None = ⊥
TakesPlaceOf tenancies new (Some old) = is_used_so new.standing ≡ true →
    ((new.amac ≡ old.amac) × (is_used_so old.standing ≡ true)) ⊎ (used_vmid tenancies new.amac ≡ None)
