use Rattle.std.proofs.Common.{◌≡◌, [], drop}
use Rattle.pl_topology.specs.Document.{lent_tables}
use Rattle.pl_topology.specs.Entries.{switch_entry}
use Rattle.pl_topology.specs.Found.{FindsIds}
use Rattle.pl_topology.specs.Refusal.{all_beside}
use Rattle.pl_topology.proofs.switch_tables.read_switches.Given as goal

abbrev pub invariant-loop-table : goal.invariant-loop-table
invariant-loop-table l = record {
  read : all_beside (switch_entry l.k) l.entries.items (lent_tables (drop l.table-index l.tables)) ≡ all_beside (switch_entry l.k) [] (lent_tables l.tables);
  found : FindsIds l.ids l.entries.items;
}
