use Rattle.std.proofs.Common.{◌≡◌, ◌++◌, drop, option_map}
use Rattle.toml.specs.View.{items_view}
use Rattle.pl_topology.specs.Document.{tables_in, lent_tables}
use Rattle.pl_topology.proofs.document.tables_in.Given as goal

-- the tables so far and those of what is left are those of all
abbrev pub invariant-loop-item : goal.invariant-loop-item
invariant-loop-item l = option_map (λ rest. lent_tables l.tables.items ++ rest) (tables_in (items_view (drop l.item-index l.items))) ≡ tables_in (items_view l.items)
