-- What a wiring is: a fat tree whose switches have ids, with hosts at free ports of its edge switches.
use Rattle.std.specs.Prelude.{◌≡◌, ◌≢◌, ℕ, ◌^◌, ◌/◌, ◌<◌, ◌≤◌, IsTrue, List, [], ◌∷◌, length, All, AllPairs, HoldsAt}
use Rattle.pl_frame.specs.declared.address.SwitchId.{SwitchId}
use Rattle.pl_frame.specs.declared.address.Mac.{Mac}
use Rattle.pl_frame.specs.declared.address.Ip4.{Ip4}
use Rattle.pl_frame.specs.Address.{IsGroup}
use Rattle.pl_wiring.specs.declared.link.Link.{Link}
use Rattle.pl_wiring.specs.declared.host.Host.{Host}
use Rattle.pl_wiring.specs.Labels.{IsArity, edge_count, switch_count}
use Rattle.pl_wiring.specs.FatTree.{IsAt, IsFatTree, IsInLinkOrder}
use Rattle.pl_wiring.specs.Texts.{is_name}

-- the ids in label order, the links in link order
pub record Plan : Type 0 where
  pub k : ℕ
  pub ids : List SwitchId
  pub links : List Link
  pub hosts : List Host

-- the host stands at this port of this switch
abbrev pub IsAttachedAt : Host → ℕ → ℕ → Type 0
IsAttachedAt host switch port = (host.edge.0 ≡ switch) × (host.port ≡ port)

-- the MAC address of one host: six bytes, which name no group and are not all zero
pub record IsHostMac (mac : Mac) : Type 0 where
  pub six_bytes : length mac.0 ≡ 6
  pub no_group : ¬ IsGroup mac
  pub not_zero : mac.0 ≢ 0 ∷ 0 ∷ 0 ∷ 0 ∷ 0 ∷ 0 ∷ []

-- the IPv4 address of one host: not 0.0.0.0, and its first number is below 224
pub record IsHostIp (ip : Ip4) : Type 0 where
  pub not_zero : ip.0 ≢ 0
  pub no_group : ip.0 / 2 ^ 24 < 224

pub record IsPlan (plan : Plan) : Type 0 where
  pub arity : IsArity plan.k
  pub tree : IsFatTree plan.k plan.links
  pub in_order : IsInLinkOrder plan.k plan.links
  -- each switch has an id of its own
  pub ids_many : length plan.ids ≡ switch_count plan.k
  pub ids_in_range : All (λ id. (1 ≤ id.0) × (id.0 < 2 ^ 48)) plan.ids
  pub ids_apart : AllPairs (λ a b. a.0 ≢ b.0) plan.ids
  -- each host stands at a port of an edge switch that neither a link nor another host has
  pub at_edges : All (λ h. (h.edge.0 < edge_count plan.k) × (h.port < plan.k)) plan.hosts
  pub at_free_ports : All (λ h. All (λ l. IsAt l h.edge.0 h.port → ⊥) plan.links) plan.hosts
  pub ports_apart : AllPairs (λ g h. IsAttachedAt g h.edge.0 h.port → ⊥) plan.hosts
  -- each host has addresses of one host
  pub host_macs : All (λ h. IsHostMac h.mac) plan.hosts
  pub host_ips : All (λ h. IsHostIp h.ip) plan.hosts
  -- each host has a name; no two hosts have one name, MAC address or IPv4 address
  pub names : All (λ h. IsTrue (is_name h.name)) plan.hosts
  pub names_apart : AllPairs (λ g h. g.name ≢ h.name) plan.hosts
  pub macs_apart : AllPairs (λ g h. g.mac ≢ h.mac) plan.hosts
  pub ips_apart : AllPairs (λ g h. g.ip ≢ h.ip) plan.hosts
  pub few_hosts : length plan.hosts < 2 ^ 32

-- the host of this number
abbrev pub HasHost : Plan → ℕ → (Host → Type 0) → Type 0
HasHost plan n P = (n < length plan.hosts) × HoldsAt P plan.hosts n
