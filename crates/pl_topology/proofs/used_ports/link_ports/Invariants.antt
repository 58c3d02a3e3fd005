use Rattle.std.proofs.Common.{◌≡◌, ◌++◌, List, take, drop}
use Rattle.std.specs.List.{flat_map}
use Rattle.pl_topology.specs.declared.entries.PortUse.{PortUse}
use Rattle.pl_topology.specs.Checks.{link_uses, port_is_free}
use Rattle.pl_topology.specs.Found.{SeesPorts}
use Rattle.pl_topology.specs.Refusal.{each_beside}
use Rattle.pl_topology.proofs.used_ports.link_ports.Given as goal

abbrev pub invariant-loop-entry : goal.invariant-loop-entry
invariant-loop-entry l = record {
  seen : (before : List PortUse) → SeesPorts l.fn.used before → SeesPorts l.used (before ++ flat_map (link_uses l.k) (take l.entry-index l.entries));
  rest : (before : List PortUse) → SeesPorts l.fn.used before →
      each_beside (port_is_free l.k) (before ++ flat_map (link_uses l.k) (take l.entry-index l.entries)) (flat_map (link_uses l.k) (drop l.entry-index l.entries))
      ≡ each_beside (port_is_free l.k) before (flat_map (link_uses l.k) l.entries);
}
