use Rattle.std.proofs.Common.{take}
use Rattle.pl_world_parts.specs.WiringIndex.{FindsHostsByMac}
use Rattle.pl_world_parts.proofs.wiring_index.hosts_by_mac.Given as goal

abbrev pub invariant-loop-n : goal.invariant-loop-n
invariant-loop-n l = FindsHostsByMac (take l.n l.hosts) l.by_mac.entries
