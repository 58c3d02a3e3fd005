use Rattle.std.proofs.Common.{◌≡◌, ◌++◌, take, drop}
use Rattle.pl_topology.specs.Checks.{id_is_new, ids_differ, kept_ids}
use Rattle.pl_topology.specs.Found.{SeesIds}
use Rattle.pl_topology.specs.Refusal.{each_beside}
use Rattle.pl_topology.proofs.double_ids.ids_differ.Given as goal

abbrev pub invariant-loop-entry : goal.invariant-loop-entry
invariant-loop-entry l = record {
  seen : SeesIds l.seen (kept_ids l.k l.entries ++ take l.entry-index l.entries);
  rest : each_beside id_is_new (kept_ids l.k l.entries ++ take l.entry-index l.entries) (drop l.entry-index l.entries) ≡ ids_differ l.k l.entries;
}
