use Rattle.std.proofs.Common.{◌≡◌, take, drop}
use Rattle.pl_topology.specs.Checks.{addresses_are_new, addresses_differ}
use Rattle.pl_topology.specs.Found.{SeesIps, SeesMacs}
use Rattle.pl_topology.specs.Refusal.{each_beside}
use Rattle.pl_topology.proofs.double_hosts.addresses_differ.Given as goal

abbrev pub invariant-loop-host : goal.invariant-loop-host
invariant-loop-host l = record {
  macs : SeesMacs l.macs (take l.host-index l.hosts);
  ips : SeesIps l.ips (take l.host-index l.hosts);
  rest : each_beside addresses_are_new (take l.host-index l.hosts) (drop l.host-index l.hosts) ≡ addresses_differ l.hosts;
}
