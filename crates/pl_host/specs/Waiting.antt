-- The frames that wait.
use Rattle.std.specs.Prelude.{◌≡◌, ℕ, Bool, List, is_none, length, sum_by}
use Rattle.std.specs.List.{list_all}
use Rattle.std.specs.List.Sorted.{IsStrictlySortedBy}
use Rattle.std.specs.Map.{keys_of, values_of}
use Rattle.pl_frame.specs.declared.address.Ip4.{Ip4}
use Rattle.pl_arp.specs.Reception.{Table, hardware_of}
use Rattle.pl_node.specs.HostViews.{HeldFrames, ip_cmp}

-- each address is smaller than those behind it
abbrev pub AreAddressesRising : List Ip4 → Type 0
AreAddressesRising ips = IsStrictlySortedBy ip_cmp ips

-- so many frames wait in all, by rising address
pub record IsTallied (held : HeldFrames) (many : ℕ) : Type 0 where
  pub count : many ≡ sum_by length (values_of held)
  pub rising : AreAddressesRising (keys_of held)

-- the cache knows no address for which frames wait
abbrev pub are_unknown : Table → HeldFrames → Bool
are_unknown cache held = list_all (λ entry. is_none (hardware_of cache entry.0)) held
