use Rattle.std.proofs.Common.{◌≡◌, ◌++◌, List, take, drop}
use Rattle.std.specs.List.{flat_map}
use Rattle.pl_topology.specs.declared.entries.PortUse.{PortUse}
use Rattle.pl_topology.specs.Checks.{host_uses, port_is_free}
use Rattle.pl_topology.specs.Found.{SeesPorts}
use Rattle.pl_topology.specs.Refusal.{each_beside}
use Rattle.pl_topology.proofs.used_ports.host_ports.Given as goal

abbrev pub invariant-loop-host : goal.invariant-loop-host
invariant-loop-host l = record {
  seen : (before : List PortUse) → SeesPorts l.fn.used before → SeesPorts l.used (before ++ flat_map host_uses (take l.host-index l.hosts));
  rest : (before : List PortUse) → SeesPorts l.fn.used before →
      each_beside (port_is_free l.k) (before ++ flat_map host_uses (take l.host-index l.hosts)) (flat_map host_uses (drop l.host-index l.hosts))
      ≡ each_beside (port_is_free l.k) before (flat_map host_uses l.hosts);
}
