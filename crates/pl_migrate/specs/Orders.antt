-- What moves in the lists of an address table.
use Rattle.std.specs.Prelude.{◌≡◌, ℕ, ◌+◌, ◌-◌, List, [], ◌∷◌, ◌++◌, Option, slice_index_or, slice_set}
use Rattle.pl_frame.specs.declared.address.Ip4.{Ip4}
use Rattle.pl_frame.specs.declared.address.Mac.{Mac}
use Rattle.pl_pmac.specs.declared.pmac.Pmac.{Pmac}
use Rattle.pl_pool.specs.declared.key.Key.{Key}
use Rattle.pl_pool.specs.Pool.{IsFree, Lists, list_at, without}
use Rattle.pl_migrate.specs.declared.tenancy.Standing.TheVariants.{Fresh}
use Rattle.pl_migrate.specs.declared.tenancy.Tenancy.{Tenancy}
use Rattle.pl_migrate.specs.Tenancies.{list_of}

-- the lists without what stands under a key in one of them
abbrev pub taken_out : Lists Pmac → ℕ → Key → Lists Pmac
taken_out orders list key = record { lists = slice_set orders.lists list (without (list_at orders list) key); spare = orders.spare + 1 }

-- an address leaves one list, and stands behind the last of another, or of the same one, under this key
pub record IsMoved (before after : Lists Pmac) (from : ℕ) (old : Key) (to : ℕ) (new : Key) (x : Pmac) : Type 0 where
  pub lists : after.lists ≡ slice_set (taken_out before from old).lists to (list_at (taken_out before from old) to ++ (new, x) ∷ [])
  pub free : IsFree (taken_out before from old) new

-- what is kept of an address is replaced
abbrev pub with_tenancy : List (List Tenancy) → Pmac → Tenancy → List (List Tenancy)
with_tenancy ports x tenancy = slice_set ports x.port (slice_set (slice_index_or ports x.port []) (x.vmid - 1) tenancy)

-- a new address of a port is granted to a host, and is the last that was used
pub record IsEntered (before after : List Tenancy) (orders_before orders_after : Lists Pmac) (x : Pmac) (amac : Mac) (ip : Option Ip4) (now : ℕ) : Type 0 where
  pub key : Key
  pub tenancies : after ≡ before ++ record { amac = amac; ip = ip; standing = Fresh; since = now; key = key } ∷ []
  pub lists : orders_after.lists ≡ slice_set orders_before.lists 0 (list_at orders_before 0 ++ (key, x) ∷ [])
  pub free : IsFree orders_before key

-- what an address is used for has changed: it stands behind all others that are used so
pub record IsChanged (before after : List (List Tenancy)) (orders_before orders_after : Lists Pmac) (x : Pmac) (old new : Tenancy) : Type 0 where
  pub key : Key
  pub ports : after ≡ with_tenancy before x (record new { key = key })
  pub moved : IsMoved orders_before orders_after (list_of x.port old.standing) old.key (list_of x.port new.standing) key x
