use Rattle.std.proofs.Common.{◌≡◌, drop}
use Rattle.toml.specs.View.{table_view}
use Rattle.pl_topology.specs.Complete.{has_keys}
use Rattle.pl_topology.proofs.complete.table_has.Given as goal

abbrev pub invariant-loop-key : goal.invariant-loop-key
invariant-loop-key l = has_keys (drop l.key-index l.keys) (table_view l.table) ≡ has_keys l.keys (table_view l.table)
