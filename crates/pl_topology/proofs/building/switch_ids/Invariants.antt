use Rattle.std.proofs.Common.{◌≡◌, List, map}
use Rattle.std.specs.List.{range_with_len}
use Rattle.pl_topology.specs.declared.entries.SwitchEntry.{SwitchEntry}
use Rattle.pl_topology.specs.Found.{FindsIds}
use Rattle.pl_topology.specs.Meaning.{id_of}
use Rattle.pl_topology.proofs.building.switch_ids.Given as goal

abbrev pub invariant-loop-number : goal.invariant-loop-number
invariant-loop-number l = (entries : List SwitchEntry) → FindsIds l.given entries → l.ids.items ≡ map (id_of entries) (range_with_len 0 l.number)
