use Rattle.std.proofs.Common.{◌≡◌, ◌++◌, List, take, drop}
use Rattle.pl_topology.specs.declared.entries.PortUse.{PortUse}
use Rattle.pl_topology.specs.Checks.{port_is_free}
use Rattle.pl_topology.specs.Found.{SeesPorts}
use Rattle.pl_topology.specs.Refusal.{each_beside}
use Rattle.pl_topology.proofs.used_ports.take_ports.Given as goal

abbrev pub invariant-loop-taken : goal.invariant-loop-taken
invariant-loop-taken l = record {
  seen : (before : List PortUse) → SeesPorts l.fn.used before → SeesPorts l.used (before ++ take l.taken-index l.uses);
  rest : (before : List PortUse) → SeesPorts l.fn.used before → each_beside (port_is_free l.k) (before ++ take l.taken-index l.uses) (drop l.taken-index l.uses) ≡ each_beside (port_is_free l.k) before l.uses;
}
