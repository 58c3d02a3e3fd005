use Rattle.std.proofs.Common.{take}
use Rattle.pl_world_parts.specs.WiringIndex.{FindsSwitches}
use Rattle.pl_world_parts.proofs.wiring_index.switches_by_id.Given as goal

abbrev pub invariant-loop-n : goal.invariant-loop-n
invariant-loop-n l = FindsSwitches (take l.n l.wiring.ids) l.by_id.entries
