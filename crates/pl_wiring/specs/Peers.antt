-- What a list of links says of a port, and of two switches.
use Rattle.std.specs.Prelude.{refl, ◌≡◌, ℕ, ◌<◌, ◌⊎◌, List, [], ◌∷◌, Contains, ◌==◌, ◌&&◌, if◌then◌else◌}
use Rattle.pl_wiring.specs.declared.label.SwitchNo.{SwitchNo}
use Rattle.pl_wiring.specs.declared.link.Link.{Link}
use Rattle.pl_wiring.specs.declared.link.Peer.{Peer}
use Rattle.pl_wiring.specs.declared.link.Peer.TheVariants.{Switch, HostPort}
use Rattle.pl_wiring.specs.Labels.{switch_count}
use Rattle.pl_wiring.specs.FatTree.{IsAt, canonical_links}
use Rattle.pl_wiring.specs.Plan.{Plan}

-- the link's one end is the first port of the first switch, and its other end the second port of the second switch
abbrev pub HasEnds : Link → ℕ → ℕ → ℕ → ℕ → Type 0
HasEnds link s p t q =
    ((link.lower.0 ≡ s) × (link.lower_port ≡ p) × (link.upper.0 ≡ t) × (link.upper_port ≡ q))
    ⊎ ((link.upper.0 ≡ s) × (link.upper_port ≡ p) × (link.lower.0 ≡ t) × (link.lower_port ≡ q))

-- the other end of the link at a port, or that no link is there
abbrev pub IsPeer : List Link → ℕ → ℕ → Peer → Type 0
IsPeer links s p (Switch t q) = (link : Link) × Contains links link × HasEnds link s p t.0 q
IsPeer links s p HostPort = (link : Link) → Contains links link → IsAt link s p → ⊥

-- the same as a function, since no port has two links
abbrev pub peer_among : List Link → ℕ → ℕ → Peer
peer_among [] s p = HostPort
peer_among (link ∷ links) s p =
    if link.lower.0 == s && link.lower_port == p then Switch link.upper link.upper_port
    else if link.upper.0 == s && link.upper_port == p then Switch link.lower link.lower_port
    else peer_among links s p

abbrev pub peer_of : Plan → ℕ → ℕ → Peer
peer_of plan s p = peer_among plan.links s p

-- the port's link leads to a port that is there
abbrev pub IsPort : ℕ → Peer → Type 0
IsPort k (Switch t q) = (t.0 < switch_count k) × (q < k)
IsPort k HostPort = Unit {0}

-- the link joins these two switches, in either order
abbrev pub LinksSwitches : Link → ℕ → ℕ → Type 0
LinksSwitches link a b = ((link.lower.0 ≡ a) × (link.upper.0 ≡ b)) ⊎ ((link.lower.0 ≡ b) × (link.upper.0 ≡ a))

-- the link leads up from the first switch to the second
abbrev pub LeadsFrom : Link → SwitchNo → SwitchNo → Type 0
LeadsFrom link lower upper = (link.lower ≡ lower) × (link.upper ≡ upper)

-- in the canonical wiring at k = 4 port 2 of e0.0 joins port 0 of a0.0, and its port 0 has no link
first_uplink : peer_among (canonical_links 4) 0 2 ≡ Switch (record { 0 = 8 }) 0
first_uplink = refl

host_port : peer_among (canonical_links 4) 0 0 ≡ HostPort
host_port = refl

-- port 1 of c1.1 joins port 3 of a1.1
core_port : peer_among (canonical_links 4) 19 1 ≡ Switch (record { 0 = 11 }) 3
core_port = refl
