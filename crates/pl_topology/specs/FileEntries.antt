-- What the tables of a topology file say, all of them.
use Rattle.std.specs.Prelude.{◌≡◌, ℕ, true, List, [], Result, Ok, IfSome}
use Rattle.std.specs.HashMap.{get, HashMap}
use Rattle.std.specs.declared.hash.FoldHasher.{FoldHasher}
use Rattle.std.specs.declared.hash.BuildHasherDefault.{BuildHasherDefault}
use Rattle.toml.specs.Data.{Members}
use Rattle.pl_topology.specs.declared.error.TopologyError.{TopologyError}
use Rattle.pl_topology.specs.declared.error.TopologyError.TheVariants as error
use Rattle.pl_topology.specs.declared.key.Key.TheVariants as key
use Rattle.pl_topology.specs.declared.entries.SwitchEntry.{SwitchEntry}
use Rattle.pl_topology.specs.declared.entries.LinkEntry.{LinkEntry}
use Rattle.pl_topology.specs.declared.entries.HostEntry.{HostEntry}
use Rattle.pl_topology.specs.declared.file_entries.FileEntries.{FileEntries}
use Rattle.pl_topology.specs.Checks.{is_port}
use Rattle.pl_topology.specs.Document.{tables_at}
use Rattle.pl_topology.specs.Entries.{switch_entry, link_entry, host_entry}
use Rattle.pl_topology.specs.Found.{FindsIds, FindsLinkEntries, ends_of, same_pair}
use Rattle.pl_wiring.specs.declared.label.SwitchNo.{SwitchNo}
use Rattle.pl_topology.specs.Refusal.{◌>>=◌, all_beside, or_refused}

pub record Entries : Type 0 where
  pub switches : List SwitchEntry
  pub links : List LinkEntry
  pub hosts : List HostEntry

abbrev pub entries_view : FileEntries → Entries
entries_view e = record { switches = e.switches.entries.items; links = e.links.entries.items; hosts = e.hosts.items }

unfoldable pub switch_entries : ℕ → Members → Result (List SwitchEntry) TopologyError
switch_entries k document = do
  tables ← or_refused (tables_at key.Switch document) (error.BadValue key.Switch)
  all_beside (switch_entry k) [] tables

unfoldable pub link_entries : ℕ → Members → Result (List LinkEntry) TopologyError
link_entries k document = do
  tables ← or_refused (tables_at key.Link document) (error.BadValue key.Link)
  all_beside (link_entry k) [] tables

unfoldable pub host_entries : ℕ → Members → Result (List HostEntry) TopologyError
host_entries k document = do
  tables ← or_refused (tables_at key.Host document) (error.BadValue key.Host)
  all_beside (λ _. host_entry k) [] tables

-- The tables of switches are read first and those of hosts last, each in the order of the file.
unfoldable pub entries_of : ℕ → Members → Result Entries TopologyError
entries_of k document = do
  switches ← switch_entries k document
  links ← link_entries k document
  hosts ← host_entries k document
  Ok (record { switches = switches; links = links; hosts = hosts })

-- the maps beside the entries have what the entries have
pub record FindEntries (e : FileEntries) : Type 0 where
  pub ids : FindsIds e.switches.ids e.switches.entries.items
  pub links : FindsLinkEntries e.links.by_ends e.links.entries.items

-- the ports are ports of the switches
abbrev pub NamesPorts : ℕ → LinkEntry → Type 0
NamesPorts k entry = (is_port k entry.port_a ≡ true) × (is_port k entry.port_b ≡ true)

abbrev pub HasPort : ℕ → HostEntry → Type 0
HasPort k host = is_port k host.port ≡ true

-- what a map has for a link has ports of the switches
abbrev pub PortsFit : ℕ → HashMap (ℕ × ℕ) LinkEntry (BuildHasherDefault FoldHasher) → Type 0
PortsFit k by_ends = (a b : SwitchNo) → IfSome (get same_pair by_ends (ends_of a b)) (NamesPorts k)
