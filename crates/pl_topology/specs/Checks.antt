-- What the tables of a topology file, taken together, have to keep.
use Rattle.std.specs.Prelude.{ℕ, ◌+◌, ℤ, pos, negsuc, Bool, true, false, not, ◌&&◌, ◌||◌, ◌==◌, nat_lt, List, [], ◌∷◌, ◌++◌, map, filter, Result, ⊤}
use Rattle.std.specs.List.{list_any, flat_map, range_with_len}
use Rattle.std.specs.Ordering.{int_eq}
use Rattle.std.specs.Str.{bytes_eq}
use Rattle.pl_frame.specs.declared.address.SwitchId.{SwitchId}
use Rattle.pl_topology.specs.declared.error.TopologyError.{TopologyError}
use Rattle.pl_topology.specs.declared.error.TopologyError.TheVariants as error
use Rattle.pl_wiring.specs.declared.label.SwitchNo.{SwitchNo}
use Rattle.pl_wiring.specs.declared.label.Label.{Label}
use Rattle.pl_wiring.specs.declared.label.Label.TheVariants.{Edge, Aggregation, Core}
use Rattle.pl_wiring.specs.declared.link.Link.{Link}
use Rattle.pl_topology.specs.declared.entries.SwitchEntry.{SwitchEntry}
use Rattle.pl_topology.specs.declared.entries.LinkEntry.{LinkEntry}
use Rattle.pl_topology.specs.declared.entries.HostEntry.{HostEntry}
use Rattle.pl_topology.specs.declared.entries.PortUse.{PortUse}
use Rattle.pl_topology.specs.Entries.{is_of, is_between}
use Rattle.pl_wiring.specs.FatTree.{canonical_links}
use Rattle.pl_wiring.specs.Labels.{label_of, switch_count}
use Rattle.pl_topology.specs.Refusal.{◌>>=◌, each_beside, refused_if}

-- a switch that no table names has its number in label order plus 1 as its id
abbrev pub canonical_entry : ℕ → SwitchEntry
canonical_entry n = record { switch = record { 0 = n }; id = record { 0 = n + 1 } }

abbrev pub is_unnamed : List SwitchEntry → SwitchEntry → Bool
is_unnamed given entry = not (list_any (is_of entry.switch) given)

abbrev pub kept_ids : ℕ → List SwitchEntry → List SwitchEntry
kept_ids k given = filter (is_unnamed given) (map canonical_entry (range_with_len 0 (switch_count k)))

abbrev pub has_id : SwitchId → SwitchEntry → Bool
has_id id entry = entry.id.0 == id.0

unfoldable pub id_is_new : List SwitchEntry → SwitchEntry → Result ⊤ TopologyError
id_is_new before entry = refused_if (list_any (has_id entry.id) before) (error.DoubleId entry.id)

-- no table gives an id that a switch without a table keeps, or that an earlier table gives
abbrev pub ids_differ : ℕ → List SwitchEntry → Result ⊤ TopologyError
ids_differ k given = each_beside id_is_new (kept_ids k given) given

abbrev pub is_called : List ℕ → HostEntry → Bool
is_called name host = bytes_eq host.name name

unfoldable pub name_is_new : List HostEntry → HostEntry → Result ⊤ TopologyError
name_is_new before host = refused_if (list_any (is_called host.name) before) (error.DoubleHost host.name)

abbrev pub names_differ : List HostEntry → Result ⊤ TopologyError
names_differ hosts = each_beside name_is_new [] hosts

abbrev pub has_mac : List ℕ → HostEntry → Bool
has_mac bytes host = bytes_eq host.mac.0 bytes

abbrev pub has_ip : ℕ → HostEntry → Bool
has_ip number host = host.ip.0 == number

unfoldable pub addresses_are_new : List HostEntry → HostEntry → Result ⊤ TopologyError
addresses_are_new before host =
    refused_if (list_any (has_mac host.mac.0) before || list_any (has_ip host.ip.0) before) (error.DoubleAddress host.name)

abbrev pub addresses_differ : List HostEntry → Result ⊤ TopologyError
addresses_differ hosts = each_beside addresses_are_new [] hosts

abbrev pub is_below : Label → Label → Bool
is_below (Edge pod i) (Aggregation q j) = pod == q
is_below (Aggregation pod j) (Core group m) = j == group
is_below _ _ = false

-- the tree joins these two switches
abbrev pub are_adjacent : ℕ → SwitchNo → SwitchNo → Bool
are_adjacent k a b = is_below (label_of k a.0) (label_of k b.0) || is_below (label_of k b.0) (label_of k a.0)

abbrev pub link_uses : ℕ → LinkEntry → List PortUse
link_uses k entry =
    let counts = are_adjacent k entry.a entry.b in
    record { switch = entry.a; port = entry.port_a; counts = counts } ∷ record { switch = entry.b; port = entry.port_b; counts = counts } ∷ []

abbrev pub host_uses : HostEntry → List PortUse
host_uses host = record { switch = host.edge; port = host.port; counts = true } ∷ []

abbrev pub canonical_uses : Link → List PortUse
canonical_uses link =
    record { switch = link.lower; port = pos link.lower_port; counts = true } ∷ record { switch = link.upper; port = pos link.upper_port; counts = true } ∷ []

-- the canonical links of which no table speaks keep their ports
abbrev pub is_unspoken : List LinkEntry → Link → Bool
is_unspoken given link = not (list_any (is_between link.lower link.upper) given)

abbrev pub kept_uses : ℕ → List LinkEntry → List PortUse
kept_uses k given = flat_map canonical_uses (filter (is_unspoken given) (canonical_links k))

abbrev pub is_port : ℕ → ℤ → Bool
is_port k (pos n) = nat_lt n k
is_port k (negsuc n) = false

abbrev pub is_at : ℕ → ℤ → PortUse → Bool
is_at switch port taken = taken.counts && taken.switch.0 == switch && int_eq taken.port port

-- the port is there, and nothing before is at it
unfoldable pub port_is_free : ℕ → List PortUse → PortUse → Result ⊤ TopologyError
port_is_free k before taken = do
  _ ← refused_if (not (is_port k taken.port)) (error.BadPort (label_of k taken.switch.0) taken.port)
  refused_if (taken.counts && list_any (is_at taken.switch.0 taken.port) before) (error.BadPort (label_of k taken.switch.0) taken.port)

-- the `link` tables first, and then the `host` tables
unfoldable pub ports_differ : ℕ → List LinkEntry → List HostEntry → Result ⊤ TopologyError
ports_differ k links hosts = do
  _ ← each_beside (port_is_free k) (kept_uses k links) (flat_map (link_uses k) links)
  each_beside (port_is_free k) (kept_uses k links ++ flat_map (link_uses k) links) (flat_map host_uses hosts)

unfoldable pub joins_the_tree : ℕ → LinkEntry → Result ⊤ TopologyError
joins_the_tree k entry = refused_if (not (are_adjacent k entry.a entry.b)) (error.NotFatTree (label_of k entry.a.0) (label_of k entry.b.0))
