-- What a journal says of the fabric itself: where hosts stand, which addresses they were granted, and which links are failed.
-- The entries that are past are taken here with the newest first.
use Rattle.std.specs.Prelude.{ℕ, ◌+◌, ◌==◌, ◌&&◌, ◌||◌, not, zero, suc, max, nat_lt, Bool, true, false, if◌then◌else◌, List, [], ◌∷◌, length, Option, Some, None, slice_get}
use Rattle.std.specs.List.{list_any}
use Rattle.std.specs.Option.{option_map}
use Rattle.pl_pmac.specs.declared.pmac.Pmac.{Pmac}
use Rattle.pl_pmac.specs.Pmac.{pmac_number}
use Rattle.pl_wiring.specs.declared.link.Peer.{Peer}
use Rattle.pl_wiring.specs.declared.link.Peer.TheVariants.{Switch, HostPort}
use Rattle.pl_wiring.specs.Labels.{edge_count}
use Rattle.pl_wiring.specs.Plan.{Plan}
use Rattle.pl_wiring.specs.Peers.{peer_of}
use Rattle.pl_journal.specs.declared.entry.Entry.{Entry}
use Rattle.pl_journal.specs.declared.entry.Entry.TheVariants.{Freed, Granted, Registered, LinkDown, LinkUp, Moved, Restarted}

-- a port of an edge switch
pub record EdgePort : Type 0 where
  pub edge : ℕ
  pub port : ℕ

abbrev pub at_port : ℕ → ℕ → EdgePort
at_port edge port = record { edge = edge; port = port }

abbrev pub same_edge_port : EdgePort → EdgePort → Bool
same_edge_port a b = (a.edge == b.edge) && (a.port == b.port)

abbrev pub is_at : Option EdgePort → EdgePort → Bool
is_at None b = false
is_at (Some a) b = same_edge_port a b

abbrev pub first_edge_port : Plan → ℕ → Option EdgePort
first_edge_port plan host = option_map (λ h. at_port h.edge.0 h.port) (slice_get plan.hosts host)

-- where a host stands: where it moved last, else where the wiring has it
abbrev pub edge_port_of : Plan → List Entry → ℕ → Option EdgePort
edge_port_of plan [] host = first_edge_port plan host
edge_port_of plan (Moved h e p ∷ past) host = if h.0 == host then Some (at_port e.0 p) else edge_port_of plan past host
edge_port_of plan (entry ∷ past) host = edge_port_of plan past host

-- whether it stands or has stood there
abbrev pub has_stood : Plan → List Entry → ℕ → EdgePort → Bool
has_stood plan [] host edge_port = is_at (first_edge_port plan host) edge_port
has_stood plan (Moved h e p ∷ past) host edge_port = (h.0 == host && same_edge_port (at_port e.0 p) edge_port) || has_stood plan past host edge_port
has_stood plan (entry ∷ past) host edge_port = has_stood plan past host edge_port

-- none of the first so many hosts stands there
abbrev pub is_left_free : Plan → List Entry → EdgePort → ℕ → Bool
is_left_free plan past edge_port zero = true
is_left_free plan past edge_port (suc n) = not (is_at (edge_port_of plan past n) edge_port) && is_left_free plan past edge_port n

abbrev pub is_host_port : Peer → Bool
is_host_port (Switch t q) = false
is_host_port HostPort = true

-- a port for hosts, at which no host stands
abbrev pub is_free : Plan → List Entry → EdgePort → Bool
is_free plan past edge_port =
    nat_lt edge_port.edge (edge_count plan.k) && nat_lt edge_port.port plan.k && is_host_port (peer_of plan edge_port.edge edge_port.port)
    && is_left_free plan past edge_port (length plan.hosts)

-- the host that an address was granted to last, and the port where it was granted
abbrev pub holder : List Entry → ℕ → Option ℕ
holder [] x = None
holder (Granted y h e p ∷ past) x = if pmac_number y == x then Some h.0 else holder past x
holder (entry ∷ past) x = holder past x

abbrev pub edge_port : List Entry → ℕ → Option EdgePort
edge_port [] x = None
edge_port (Granted y h e p ∷ past) x = if pmac_number y == x then Some (at_port e.0 p) else edge_port past x
edge_port (entry ∷ past) x = edge_port past x

-- an address is live once it was granted, until it is freed
abbrev pub is_live : List Entry → ℕ → Bool
is_live [] x = false
is_live (Granted y h e p ∷ past) x = (pmac_number y == x) || is_live past x
is_live (Freed y ∷ past) x = not (pmac_number y == x) && is_live past x
is_live (entry ∷ past) x = is_live past x

-- one of these entries frees it
abbrev pub are_freed : List Entry → ℕ → Bool
are_freed [] x = false
are_freed (Freed y ∷ entries) x = (pmac_number y == x) || are_freed entries x
are_freed (entry ∷ entries) x = are_freed entries x

-- the host that holds a live address
abbrev pub live_holder : List Entry → ℕ → Option ℕ
live_holder past x = if is_live past x then holder past x else None

-- the address that a host was granted last at a port
abbrev pub granted_at : List Entry → ℕ → EdgePort → Option Pmac
granted_at [] host there = None
granted_at (Granted y h e p ∷ past) host there =
    if (h.0 == host) && same_edge_port (at_port e.0 p) there then Some y else granted_at past host there
granted_at (entry ∷ past) host there = granted_at past host there

-- whether a port of the edge switch has given the largest vmid
abbrev pub is_spent : List Entry → EdgePort → Bool
is_spent [] there = false
is_spent (Granted y h e p ∷ past) there = ((y.vmid == 65535) && same_edge_port (at_port e.0 p) there) || is_spent past there
is_spent (entry ∷ past) there = is_spent past there

abbrev pub same_pod_and_position : Pmac → Pmac → Bool
same_pod_and_position x y = (x.pod == y.pod) && (x.position == y.position)

abbrev pub are_alike : Bool → Bool → Bool
are_alike a b = (a && b) || (not a && not b)

-- the earlier grants with this pod and position are just those of this edge switch
abbrev pub is_of_edge : List Entry → Pmac → ℕ → Bool
is_of_edge [] x edge = true
is_of_edge (Granted y h e p ∷ past) x edge = are_alike (same_pod_and_position x y) (e.0 == edge) && is_of_edge past x edge
is_of_edge (entry ∷ past) x edge = is_of_edge past x edge

-- whether each address that these entries grant at a port is live
abbrev pub are_live_there : (ℕ → Bool) → List Entry → EdgePort → Bool
are_live_there live [] there = true
are_live_there live (Granted y h e p ∷ entries) there =
    (not (same_edge_port (at_port e.0 p) there) || live (pmac_number y)) && are_live_there live entries there
are_live_there live (entry ∷ entries) there = are_live_there live entries there

-- the registration number that an address was given last since it was granted last
abbrev pub number : List Entry → ℕ → Option ℕ
number [] x = None
number (Granted y h e p ∷ past) x = if pmac_number y == x then None else number past x
number (Registered y n ∷ past) x = if pmac_number y == x then Some n else number past x
number (entry ∷ past) x = number past x

-- the largest number that was given to an address, 0 before the first
abbrev pub highest : List Entry → ℕ
highest [] = 0
highest (Registered y n ∷ past) = max (highest past) n
highest (entry ∷ past) = highest past

-- how often the fabric manager began anew
abbrev pub restarts : List Entry → ℕ
restarts [] = 0
restarts (Restarted n ∷ past) = restarts past + 1
restarts (entry ∷ past) = restarts past

abbrev pub same_ends : ℕ → ℕ → ℕ → ℕ → Bool
same_ends x y a b = ((x == a) && (y == b)) || ((x == b) && (y == a))

-- whether the wiring has a link between the two
abbrev pub is_adjacent : Plan → ℕ → ℕ → Bool
is_adjacent plan a b = list_any (λ l. same_ends l.lower.0 l.upper.0 a b) plan.links

-- whether the last that is said of the link between the two is that it failed
abbrev pub is_failed : List Entry → ℕ → ℕ → Bool
is_failed [] a b = false
is_failed (LinkDown x y ∷ past) a b = if same_ends x.0 y.0 a b then true else is_failed past a b
is_failed (LinkUp x y ∷ past) a b = if same_ends x.0 y.0 a b then false else is_failed past a b
is_failed (entry ∷ past) a b = is_failed past a b

abbrev pub has_failed_link : Plan → List Entry → ℕ → Bool
has_failed_link plan past s = list_any (λ l. ((l.lower.0 == s) || (l.upper.0 == s)) && is_failed past l.lower.0 l.upper.0) plan.links
