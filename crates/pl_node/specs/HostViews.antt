-- What a host knows.
use Rattle.std.specs.Prelude.{ℕ, ◌==◌, ◌&&◌, not, nat_le, nat_lt, is_none, length, true, IsTrue, Bool, List, [], ◌∷◌, ◌++◌, filter, fold, sum_by, if◌then◌else◌, unwrap_or}
use Rattle.std.specs.List.{list_all, list_any}
use Rattle.std.specs.Map.{keys_of, lookup}
use Rattle.std.specs.declared.cmp.Ordering.{Ordering}
use Rattle.std.specs.Ordering.{nat_cmp}
use Rattle.std.specs.BTreeMap.{insert_entry}
use Rattle.std.specs.BTreeSet.{insert_key}
use Rattle.pl_frame.specs.declared.address.Ip4.{Ip4}
use Rattle.pl_arp.specs.declared.cache.Me.{Me}
use Rattle.pl_arp.specs.Reception.{Table, hardware_of, same_ip}
use Rattle.pl_layouts.specs.declared.membership.Change.{Change}
use Rattle.pl_layouts.specs.Memberships.{changes_in, group_number}

-- the frames that wait for the hardware address of an IPv4 address, by rising address; those of one address in the order in which they
-- were played, and none empty
abbrev pub HeldFrames : Type 0
HeldFrames = List (Ip4 × List (List ℕ))

-- all that a host keeps from one step to the next
pub record HostView : Type 0 where
  pub me : Me
  -- all hosts of the topology, in its order
  pub table : List Me
  -- the ARP cache
  pub cache : Table
  -- the groups that it joined, by rising address
  pub joined : List Ip4
  pub held : HeldFrames

-- at boot a host knows the hosts of the topology alone
abbrev pub boot_host : Me → List Me → HostView
boot_host me table = record { me = me; table = table; cache = []; joined = []; held = [] }

-- IPv4 addresses rise as numbers do
abbrev pub ip_cmp : Ip4 → Ip4 → Ordering
ip_cmp a b = nat_cmp a.0 b.0

-- whether a group with this number is among the joined ones
abbrev pub has_group : List Ip4 → ℕ → Bool
has_group joined number = list_any (λ group. group_number group == number) joined

-- the joined groups but those with this number
abbrev pub without_group : ℕ → List Ip4 → List Ip4
without_group number joined = filter (λ group. not (group_number group == number)) joined

-- a change of a group takes the place of each earlier one of the same group
abbrev pub groups_after_change : List Ip4 → Change → List Ip4
groups_after_change joined change = let others = without_group (group_number change.group) joined in
    if change.join then insert_key ip_cmp others change.group else others

-- the groups that a host has joined once it has sent a frame
unfoldable pub groups_after : List Ip4 → List ℕ → List Ip4
groups_after joined frame = fold groups_after_change joined (changes_in frame)

-- the frames that are held for an address
abbrev pub held_for : HeldFrames → Ip4 → List (List ℕ)
held_for held ip = unwrap_or (lookup (same_ip ip) held) []

-- one more frame is held for an address
abbrev pub with_held : HeldFrames → Ip4 → List ℕ → HeldFrames
with_held held ip frame = insert_entry ip_cmp held ip (held_for held ip ++ frame ∷ [])

-- at most so many frames are held for an address
abbrev pub hold_limit : ℕ
hold_limit = 64

-- each address is smaller than all behind it
abbrev pub are_rising : List Ip4 → Bool
are_rising [] = true
are_rising (ip ∷ ips) = list_all (λ other. nat_lt ip.0 other.0) ips && are_rising ips

-- no two groups have the same number
abbrev pub are_apart : List Ip4 → Bool
are_apart [] = true
are_apart (group ∷ groups) = not (has_group groups (group_number group)) && are_apart groups

-- some frames are held for an address, no more than the limit, and the cache does not know it
abbrev pub is_waiting : Table → Ip4 × List (List ℕ) → Bool
is_waiting cache entry = nat_le 1 (length entry.1) && nat_le (length entry.1) hold_limit && is_none (hardware_of cache entry.0)

-- a host that keeps its groups and its held frames as is said above
pub record IsOrderlyHost (view : HostView) : Type 0 where
  pub joined : IsTrue (are_rising view.joined)
  pub apart : IsTrue (are_apart view.joined)
  pub held : IsTrue (are_rising (keys_of view.held))
  pub waiting : IsTrue (list_all (is_waiting view.cache) view.held)

-- how many frames it holds
abbrev pub held_count : HostView → ℕ
held_count view = sum_by (λ entry. length entry.1) view.held
