-- The meaning of a topology file: its wiring, or the first thing that is wrong with it.
use Rattle.std.specs.Prelude.{ℕ, ◌+◌, ℤ, pos, negsuc, ◌==◌, if◌then◌else◌, List, map, option_map, unwrap_or, Result, Ok}
use Rattle.std.specs.List.{find, range_with_len}
use Rattle.pl_frame.specs.declared.address.SwitchId.{SwitchId}
use Rattle.pl_topology.specs.declared.error.TopologyError.{TopologyError}
use Rattle.pl_topology.specs.declared.error.TopologyError.TheVariants as error
use Rattle.pl_wiring.specs.declared.link.Link.{Link}
use Rattle.pl_wiring.specs.declared.host.Host.{Host}
use Rattle.pl_topology.specs.declared.entries.SwitchEntry.{SwitchEntry}
use Rattle.pl_topology.specs.declared.entries.LinkEntry.{LinkEntry}
use Rattle.pl_topology.specs.declared.entries.HostEntry.{HostEntry}
use Rattle.pl_topology.specs.Checks.{ids_differ, names_differ, addresses_differ, ports_differ, joins_the_tree}
use Rattle.pl_topology.specs.Complete.{has_all_keys}
use Rattle.pl_topology.specs.Document.{document_of, arity_of}
use Rattle.pl_topology.specs.Entries.{is_of, is_between}
use Rattle.pl_topology.specs.FileEntries.{Entries, entries_of}
use Rattle.pl_wiring.specs.FatTree.{canonical_links}
use Rattle.pl_wiring.specs.Labels.{switch_count}
use Rattle.pl_wiring.specs.Plan.{Plan}
use Rattle.pl_topology.specs.Refusal.{◌>>=◌, or_refused, each}

-- the id that a table gives the switch, or else its canonical one
abbrev pub id_of : List SwitchEntry → ℕ → SwitchId
id_of given n = unwrap_or (option_map (λ s. s.id) (find (is_of (record { 0 = n })) given)) (record { 0 = n + 1 })

abbrev pub ids_of : ℕ → List SwitchEntry → List SwitchId
ids_of k given = map (id_of given) (range_with_len 0 (switch_count k))

-- a port's number
abbrev pub port_number : ℤ → ℕ
port_number (pos n) = n
port_number (negsuc n) = 0

-- the link at the ports of a table for the same two switches
abbrev pub at_ports : Link → LinkEntry → Link
at_ports link entry =
    if entry.a.0 == link.lower.0 then record link { lower_port = port_number entry.port_a; upper_port = port_number entry.port_b }
    else record link { lower_port = port_number entry.port_b; upper_port = port_number entry.port_a }

-- the canonical link, or what a table makes of it
abbrev pub link_of : List LinkEntry → Link → Link
link_of given link = unwrap_or (option_map (at_ports link) (find (is_between link.lower link.upper) given)) link

abbrev pub links_of : ℕ → List LinkEntry → List Link
links_of k given = map (link_of given) (canonical_links k)

abbrev pub host_of : HostEntry → Host
host_of host = record {
  name = host.name;
  mac = host.mac;
  ip = host.ip;
  edge = host.edge;
  port = port_number host.port;
  capture = host.capture;
}

abbrev pub plan_of_entries : ℕ → Entries → Plan
plan_of_entries k e = record { k = k; ids = ids_of k e.switches; links = links_of k e.links; hosts = map host_of e.hosts }

-- Each line tries the whole file for one kind of refusal.
unfoldable pub topology_of : List ℕ → Result Plan TopologyError
topology_of file = do
  document ← or_refused (document_of file) error.NotToml
  k ← or_refused (arity_of document) error.BadK
  _ ← has_all_keys document
  entries ← entries_of k document
  _ ← ids_differ k entries.switches
  _ ← names_differ entries.hosts
  _ ← addresses_differ entries.hosts
  _ ← ports_differ k entries.links entries.hosts
  _ ← each (joins_the_tree k) entries.links
  Ok (plan_of_entries k entries)
