-- The ports at which a group has members, and the groups that have some.
use Rattle.std.specs.Prelude.{◌≡◌, ◌<◌, ℕ, ◌==◌, ◌&&◌, Bool, List, [], ◌∷◌, Some, None, length, slice_get, slice_index, refl}
use Rattle.std.specs.List.{All, filter, list_any}
use Rattle.std.specs.List.Sorted.{IsStrictlySortedBy}
use Rattle.pl_frame.specs.declared.address.Mac.{Mac}
use Rattle.pl_node.specs.declared.switch_records.Member.{Member}
use Rattle.pl_node.specs.PortRecords.{ports_of_switch}
use Rattle.pl_switch_rule.specs.Intake.{groups_of, joins, member_cmp}

-- a member of the group is at this port
abbrev pub has_member_at : List Member → ℕ → ℕ → Bool
has_member_at members group port = list_any (λ m. (m.group == group) && (m.port == port)) members

-- the ports with a member of the group, rising; a set of ports has those below 32
unfoldable pub ports_with_member : List Member → ℕ → List ℕ
ports_with_member members group = filter (has_member_at members group) (ports_of_switch 32)

-- what stands before all members of a group, and behind them
abbrev pub start_of : ℕ → Member
start_of group = record { group = group; port = 0; amac = record { 0 = 0 ∷ 0 ∷ 0 ∷ 0 ∷ 0 ∷ 0 ∷ [] } }

abbrev pub end_of : ℕ → Member
end_of group = record (start_of group) { port = 255 }

-- six bytes
pub record IsMac (mac : Mac) : Type 0 where
  pub many : length mac.0 ≡ 6
  pub bytes : (i : ℕ) → slice_index mac.0 i < 256

-- a host at a port of a switch
pub record MemberIsAtPort (m : Member) : Type 0 where
  pub port : m.port < 24
  pub amac : IsMac m.amac

-- the memberships of a switch rise, and are at its ports
pub record AreMembersAtPorts (members : List Member) : Type 0 where
  pub rising : IsStrictlySortedBy member_cmp members
  pub at_ports : All MemberIsAtPort members

-- one host in group 66,051 and one in group 300: the groups are 300, 66,051 and no more
abbrev two_groups : List Member
two_groups =
    joins 0 (record { 0 = 2 ∷ 0 ∷ 0 ∷ 0 ∷ 0 ∷ 0xb ∷ [] }) 66051 (joins 1 (record { 0 = 2 ∷ 0 ∷ 0 ∷ 0 ∷ 0 ∷ 0xc ∷ [] }) 300 [])

lower_group_first : slice_get (groups_of two_groups) 0 ≡ Some 300
lower_group_first = refl

higher_group_next : slice_get (groups_of two_groups) 1 ≡ Some 66051
higher_group_next = refl

no_third_group : slice_get (groups_of two_groups) 2 ≡ None
no_third_group = refl
