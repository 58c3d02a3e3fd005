use Rattle.std.proofs.Common.{◌≡◌, [], drop}
use Rattle.pl_topology.specs.Document.{lent_tables}
use Rattle.pl_topology.specs.Entries.{link_entry}
use Rattle.pl_topology.specs.Found.{FindsLinkEntries}
use Rattle.pl_topology.specs.Refusal.{all_beside}
use Rattle.pl_topology.proofs.link_tables.read_links.Given as goal

abbrev pub invariant-loop-table : goal.invariant-loop-table
invariant-loop-table l = record {
  read : all_beside (link_entry l.k) l.entries.items (lent_tables (drop l.table-index l.tables)) ≡ all_beside (link_entry l.k) [] (lent_tables l.tables);
  found : FindsLinkEntries l.by_ends l.entries.items;
}
