use Rattle.std.proofs.Common.{◌≡◌, [], drop}
use Rattle.pl_topology.specs.Document.{lent_tables}
use Rattle.pl_topology.specs.Entries.{host_entry}
use Rattle.pl_topology.specs.Refusal.{all_beside}
use Rattle.pl_topology.proofs.host_tables.read_hosts.Given as goal

abbrev pub invariant-loop-table : goal.invariant-loop-table
invariant-loop-table l = all_beside (λ _. host_entry l.k) l.hosts.items (lent_tables (drop l.table-index l.tables)) ≡ all_beside (λ _. host_entry l.k) [] (lent_tables l.tables)
