use Rattle.std.proofs.Common.{List, map}
use Rattle.std.specs.Prelude.{filter}
use Rattle.std.specs.List.{range_with_len}
use Rattle.pl_topology.specs.declared.entries.SwitchEntry.{SwitchEntry}
use Rattle.pl_topology.specs.Checks.{canonical_entry, is_unnamed}
use Rattle.pl_topology.specs.Found.{FindsIds, SeesIds}
use Rattle.pl_topology.proofs.double_ids.kept_ids.Given as goal

abbrev pub invariant-loop-number : goal.invariant-loop-number
invariant-loop-number l = (given : List SwitchEntry) → FindsIds l.ids given → SeesIds l.seen (filter (is_unnamed given) (map canonical_entry (range_with_len 0 l.number-counter)))
