use Rattle.std.proofs.Common.{◌≡◌, drop}
use Rattle.pl_topology.specs.Complete.{has_keys}
use Rattle.pl_topology.specs.Document.{lent_tables}
use Rattle.pl_topology.specs.Refusal.{each}
use Rattle.pl_topology.proofs.complete.tables_have.Given as goal

abbrev pub invariant-loop-table : goal.invariant-loop-table
invariant-loop-table l = each (has_keys l.keys) (lent_tables (drop l.table-index l.tables)) ≡ each (has_keys l.keys) (lent_tables l.tables)
