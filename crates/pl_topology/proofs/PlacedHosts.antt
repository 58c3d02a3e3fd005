-- The hosts of a file: at free ports, and no two alike.
use Rattle.std.proofs.Common.{◌≡◌, ◌≢◌, ℕ, suc, pos, ◌+◌, ◌*◌, ◌/◌, ◌^◌, ◌<◌, ◌≤◌, true, false, eqb, List, [], ◌∷◌, ◌++◌, length, get_or, map, None, IsTrue, All, AllPairs, refl, sym, ap, ◌∙◌, arith, inl, inr}
use Rattle.std.specs.List.{flat_map, list_any}
use Rattle.std.proofs.lemmas.Bool.{cases_Bool, eqb-true, false≢true}
use Rattle.std.proofs.lemmas.Bool.Decides.{Decides-eqb}
use Rattle.std.proofs.lemmas.List.{length-map}
use Rattle.std.proofs.lemmas.List.Elements.{All-map}
use Rattle.std.proofs.lemmas.Map.Made.{IsDistinct-from_AllPairs}
use Rattle.std.proofs.lemmas.Map.Steps.{length-le_from_distinct_below}
use Rattle.std.proofs.lemmas.Nat.{mul-add-lt, same_from_place}
use Rattle.std.proofs.Math.Nat.{mul-le-mul_left, mul-le-mul_right}
use Rattle.pl_topology.specs.declared.entries.HostEntry.{HostEntry}
use Rattle.pl_topology.specs.declared.entries.LinkEntry.{LinkEntry}
use Rattle.pl_topology.specs.declared.entries.PortUse.{PortUse}
use Rattle.pl_topology.specs.Checks.{host_uses, is_at, is_port, kept_uses, link_uses}
use Rattle.pl_wiring.specs.FatTree.{IsAt, link_count}
use Rattle.pl_wiring.specs.Labels.{IsArity, edge_count}
use Rattle.pl_topology.specs.Meaning.{host_of, links_of, port_number}
use Rattle.pl_wiring.specs.Plan.{IsHostIp, IsHostMac, IsAttachedAt}
use Rattle.pl_wiring.specs.Texts.{is_name}
use Rattle.pl_topology.proofs.PlacedLinks.{Agree, is_at_moved, links_of-at, links_of-length, placed_seen, port_number-below, port_number-is, use_here}
use Rattle.pl_topology.proofs.PortsApart.{IsFree}
use Rattle.pl_topology.proofs.Readings.{AllPairs-map}

-- the ports that come before those of hosts
abbrev pub uses_of_links : ℕ → List LinkEntry → List PortUse
uses_of_links k given = kept_uses k given ++ flat_map (link_uses k) given

-- what the checks of the `host` tables tell
pub record AgreeHosts (k : ℕ) (given : List LinkEntry) (hosts : List HostEntry) : Type 0 where
  pub edges : All (λ h. h.edge.0 < edge_count k) hosts
  pub named : All (λ h. IsTrue (is_name h.name)) hosts
  pub of_one_mac : All (λ h. IsHostMac h.mac) hosts
  pub of_one_ip : All (λ h. IsHostIp h.ip) hosts
  pub names : AllPairs (λ g h. g.name ≢ h.name) hosts
  pub macs : AllPairs (λ g h. g.mac ≢ h.mac) hosts
  pub ips : AllPairs (λ g h. g.ip ≢ h.ip) hosts
  pub free : All (λ h. All (IsFree k (uses_of_links k given)) (host_uses h)) hosts
  pub apart : AllPairs (λ g h. All (IsFree k (host_uses g)) (host_uses h)) hosts

free_port : (k : ℕ) (before : List PortUse) (host : HostEntry) → All (IsFree k before) (host_uses host) → (is_port k host.port ≡ true) × (list_any (is_at host.edge.0 host.port) before ≡ false)
free_port k before host free =
    let d : PortUse = record { switch = host.edge; port = host.port; counts = true } in
    let here = free 0 d (omega arith) in (here.there, here.free refl)

free_number : (k : ℕ) (before : List PortUse) (host : HostEntry) → All (IsFree k before) (host_uses host) → list_any (is_at host.edge.0 (pos (port_number host.port))) before ≡ false
free_number k before host free =
    let parts = free_port k before host free in
    let is = port_number-is k host.port parts.0 in
    ap (λ z. list_any (is_at host.edge.0 z) before) (sym is) ∙ parts.1

pub hosts_fit : (k : ℕ) (given : List LinkEntry) (hosts : List HostEntry) → AgreeHosts k given hosts → All (λ h. is_port k h.port ≡ true) hosts
hosts_fit k given hosts agree i d within = (free_port k (uses_of_links k given) (get_or hosts i d) (agree.free i d within)).0

pub hosts_at_edges : (k : ℕ) (given : List LinkEntry) (hosts : List HostEntry) → AgreeHosts k given hosts → All (λ h. (h.edge.0 < edge_count k) × (h.port < k)) (map host_of hosts)
hosts_at_edges k given hosts agree =
    All-map (λ h. (h.edge.0 < edge_count k) × (h.port < k)) host_of hosts
    (λ i d within. (agree.edges i d within, port_number-below k (get_or hosts i d).port (hosts_fit k given hosts agree i d within)))

pub hosts_at_free_ports : (k : ℕ) (given : List LinkEntry) (hosts : List HostEntry) → IsArity k → Agree k given → AgreeHosts k given hosts →
    All (λ h. All (λ l. IsAt l h.edge.0 h.port → ⊥) (links_of k given)) (map host_of hosts)
hosts_at_free_ports k given hosts arity links agree =
    All-map (λ h. All (λ l. IsAt l h.edge.0 h.port → ⊥) (links_of k given)) host_of hosts
    (λ i d within n e inside at.
    let host = get_or hosts i d in
    let many = links_of-length k given in
    let below : n < link_count k = omega arith in
    let seen = placed_seen k n given arity links below host.edge.0 (port_number host.port) (is_at_moved _ _ host.edge.0 (port_number host.port) (links_of-at k given n e below) at) in
    false≢true (sym (free_number k (uses_of_links k given) host (agree.free i d within)) ∙ seen))

taken_place : (g h : HostEntry) (k : ℕ) → is_port k g.port ≡ true → g.edge.0 ≡ h.edge.0 → port_number g.port ≡ port_number h.port → list_any (is_at h.edge.0 (pos (port_number h.port))) (host_uses g) ≡ true
taken_place g h k fit edge port =
    let here = use_here (record { switch = g.edge; port = g.port; counts = true }) h.edge.0 (port_number h.port) refl edge (port_number-is k g.port fit ∙ ap (λ n. pos n) port) in
    rw here refl

ports_apart : (k : ℕ) (given : List LinkEntry) (hosts : List HostEntry) → AgreeHosts k given hosts →
    AllPairs (λ g h. (g.edge.0 ≡ h.edge.0) × (port_number g.port ≡ port_number h.port) → ⊥) hosts
ports_apart k given hosts agree i j d less within same =
    let low : i < length hosts = omega arith in
    let g = get_or hosts i d in
    let h = get_or hosts j d in
    false≢true (sym (free_number k (host_uses g) h (agree.apart i j d less within)) ∙ taken_place g h k (hosts_fit k given hosts agree i d low) same.0 same.1)

no_host : HostEntry
no_host = record { name = []; mac = record { 0 = [] }; ip = record { 0 = 0 }; edge = record { 0 = 0 }; port = pos 0; capture = None }

pub hosts_places_apart : (k : ℕ) (given : List LinkEntry) (hosts : List HostEntry) → AgreeHosts k given hosts → AllPairs (λ g h. IsAttachedAt g h.edge.0 h.port → ⊥) (map host_of hosts)
hosts_places_apart k given hosts agree = AllPairs-map (λ g h. IsAttachedAt g h.edge.0 h.port → ⊥) host_of no_host hosts (ports_apart k given hosts agree)

pub hosts_names_apart : (k : ℕ) (given : List LinkEntry) (hosts : List HostEntry) → AgreeHosts k given hosts → AllPairs (λ g h. g.name ≢ h.name) (map host_of hosts)
hosts_names_apart k given hosts agree = AllPairs-map (λ g h. g.name ≢ h.name) host_of no_host hosts agree.names

pub hosts_macs_apart : (k : ℕ) (given : List LinkEntry) (hosts : List HostEntry) → AgreeHosts k given hosts → AllPairs (λ g h. g.mac ≢ h.mac) (map host_of hosts)
hosts_macs_apart k given hosts agree = AllPairs-map (λ g h. g.mac ≢ h.mac) host_of no_host hosts agree.macs

pub hosts_ips_apart : (k : ℕ) (given : List LinkEntry) (hosts : List HostEntry) → AgreeHosts k given hosts → AllPairs (λ g h. g.ip ≢ h.ip) (map host_of hosts)
hosts_ips_apart k given hosts agree = AllPairs-map (λ g h. g.ip ≢ h.ip) host_of no_host hosts agree.ips

-- the index of a host's port among all
index_of : ℕ → HostEntry → ℕ
index_of k host = host.edge.0 * k + port_number host.port

any_below : (n q : ℕ) (xs : List ℕ) → All (λ x. x < n) xs → list_any (eqb q) xs ≡ true → q < n
any_below n q [] all there = cc
any_below n q (x ∷ xs) all there = elim (cases_Bool (eqb q x)) [
  | inl here ↦ let same = eqb-true q x here in let low = all 0 x (omega arith) in omega arith
  | inr other ↦ any_below n q xs (λ i d within. all (suc i) d (omega arith)) (sym (rw other refl) ∙ there)
]

pub few_hosts : (k : ℕ) (given : List LinkEntry) (hosts : List HostEntry) → IsArity k → AgreeHosts k given hosts → length hosts < 2 ^ 32
unfolding index_of
few_hosts k given hosts arity agree =
    let most = arity.most in
    let half : k / 2 ≤ 12 = omega arith in
    let edges : k * (k / 2) ≤ 24 * 12 = omega (arith, mul-le-mul_right (k / 2) most, mul-le-mul_left 24 half) in
    let ports : edge_count k * k ≤ 24 * 12 * 24 = omega (arith, mul-le-mul_right k edges, mul-le-mul_left (24 * 12) most) in
    let apart : AllPairs (λ x y. x ≢ y) (map (index_of k) hosts) = AllPairs-map (λ x y. x ≢ y) (index_of k) no_host hosts
    (λ i j d less within same.
    let low : i < length hosts = omega arith in
    let g = get_or hosts i d in
    let h = get_or hosts j d in
    let below_g = port_number-below k g.port (hosts_fit k given hosts agree i d low) in
    let below_h = port_number-below k h.port (hosts_fit k given hosts agree j d within) in
    ports_apart k given hosts agree i j d less within (same_from_place g.edge.0 (port_number g.port) h.edge.0 (port_number h.port) k below_g below_h same)) in
    let below : All (λ x. x < edge_count k * k) (map (index_of k) hosts) = All-map (λ x. x < edge_count k * k) (index_of k) hosts
    (λ i d within.
    let h = get_or hosts i d in
    let inside = mul-add-lt h.edge.0 k (port_number h.port) (edge_count k) (agree.edges i d within) (port_number-below k h.port (hosts_fit k given hosts agree i d within)) in
    omega arith) in
    let few = length-le_from_distinct_below (map (index_of k) hosts) (edge_count k * k) (IsDistinct-from_AllPairs Decides-eqb (map (index_of k) hosts) apart) (λ q there. any_below (edge_count k * k) q (map (index_of k) hosts) below there) in
    let many : length hosts ≤ edge_count k * k = (rw length-map at few) in
    omega arith
