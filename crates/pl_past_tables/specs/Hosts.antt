-- What is kept of where hosts stand.
use Rattle.std.specs.Prelude.{◌≡◌, ℕ, ◌+◌, ◌==◌, ◌&&◌, ◌||◌, not, zero, suc, Bool, true, false, List, [], ◌∷◌, if◌then◌else◌, length, Option, Some, None, is_some, unwrap_or}
use Rattle.std.specs.Map.{lookup}
use Rattle.pl_wiring.specs.declared.host.HostNo.{HostNo}
use Rattle.pl_wiring.specs.Plan.{Plan}
use Rattle.pl_journal.specs.declared.entry.Entry.{Entry}
use Rattle.pl_journal.specs.declared.entry.Entry.TheVariants.{Moved}
use Rattle.pl_journal.specs.Places.{EdgePort, at_port, edge_port_of, is_at, same_edge_port}
use Rattle.pl_past_tables.specs.declared.keys.Point.{Point}
use Rattle.pl_past_tables.specs.declared.keys.Stay.{Stay}
use Rattle.pl_past_tables.specs.declared.hosts.Hosts.{Hosts}
use Rattle.pl_past_tables.specs.declared.hosts.Move.{Move}
use Rattle.pl_past_tables.specs.Keys.{edge_port_at, point, same_host, same_point, same_stay}

-- a host's last move
abbrev pub last_move : List Entry → ℕ → Option Move
last_move [] host = None
last_move (Moved h e p ∷ past) host = if h.0 == host then Some (record { point = point e p; at = length past + 1 }) else last_move past host
last_move (entry ∷ past) host = last_move past host

-- whether it ever moved there
abbrev pub came_to : List Entry → ℕ → EdgePort → Bool
came_to [] host there = false
came_to (Moved h e p ∷ past) host there = (h.0 == host && same_edge_port (at_port e.0 p) there) || came_to past host there
came_to (entry ∷ past) host there = came_to past host there

-- none of the first so many hosts, of which each stands here, stands there
abbrev pub is_left_free_by : (ℕ → Option EdgePort) → EdgePort → ℕ → Bool
is_left_free_by stands there zero = true
is_left_free_by stands there (suc n) = not (is_at (stands n) there) && is_left_free_by stands there n

-- whether the table has a host at a port
abbrev pub taken_in : List (Point × Bool) → Point → Bool
taken_in entries k = unwrap_or (lookup (same_point k) entries) false

pub record IsHosts (h : Hosts) (many : ℕ) (moved : ℕ → Option Move) (came : ℕ → EdgePort → Bool) (stands : ℕ → Option EdgePort) : Type 0 where
  pub moves : (k : HostNo) → lookup (same_host k) h.moves.said.entries ≡ moved k.0
  pub stood : (k : Stay) → is_some (lookup (same_stay k) h.stood.said.entries) ≡ came k.host.0 (edge_port_at k.point)
  pub taken : (k : Point) → taken_in h.taken.said.entries k ≡ not (is_left_free_by stands (edge_port_at k) many)

abbrev pub KeepsHosts : Plan → List Entry → Hosts → Type 0
KeepsHosts plan past h = IsHosts h (length plan.hosts) (last_move past) (came_to past) (edge_port_of plan past)
