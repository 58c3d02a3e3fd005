-- What is kept of groups.
use Rattle.std.specs.Prelude.{◌≡◌, ℕ, ◌==◌, Bool, false, List, if◌then◌else◌, is_some, unwrap_or}
use Rattle.std.specs.Map.{lookup}
use Rattle.pl_wiring.specs.declared.host.HostNo.{HostNo}
use Rattle.pl_wiring.specs.Plan.{Plan}
use Rattle.pl_journal.specs.declared.entry.Entry.{Entry}
use Rattle.pl_journal.specs.Places.{EdgePort}
use Rattle.pl_journal.specs.Flights.{root_arrived_at}
use Rattle.pl_journal.specs.Lossy.{has_joined, joined_after}
use Rattle.pl_layouts.specs.declared.membership.Change.{Change}
use Rattle.pl_past_tables.specs.declared.keys.Arrival.{Arrival}
use Rattle.pl_past_tables.specs.declared.keys.Member.{Member}
use Rattle.pl_past_tables.specs.declared.groups.Groups.{Groups}
use Rattle.pl_past_tables.specs.Keys.{edge_port_at, same_arrival, same_member}

-- whether the table has a host as a member of a group
abbrev pub joined_in : List (Member × Bool) → Member → Bool
joined_in entries k = unwrap_or (lookup (same_member k) entries) false

pub record IsGroups (g : Groups) (joined : ℕ → ℕ → Bool) (arrived : ℕ → EdgePort → Bool) : Type 0 where
  pub members : (k : Member) → joined_in g.members.said.entries k ≡ joined k.host.0 k.group
  pub arrivals : (k : Arrival) → is_some (lookup (same_arrival k) g.arrivals.said.entries) ≡ arrived k.root (edge_port_at k.point)

abbrev pub KeepsGroups : Plan → List Entry → Groups → Type 0
KeepsGroups plan past g = IsGroups g (has_joined past) (root_arrived_at plan past)

-- whether it is a member once the host says these changes
abbrev pub says : HostNo → List Change → Member → Bool → Bool
says host changes k before = if host.0 == k.host.0 then joined_after changes k.group before else before
