use Rattle.std.proofs.Common.{◌≡◌, take, drop}
use Rattle.pl_topology.specs.Checks.{name_is_new, names_differ}
use Rattle.pl_topology.specs.Found.{SeesNames}
use Rattle.pl_topology.specs.Refusal.{each_beside}
use Rattle.pl_topology.proofs.double_hosts.names_differ.Given as goal

abbrev pub invariant-loop-host : goal.invariant-loop-host
invariant-loop-host l = record {
  seen : SeesNames l.seen (take l.host-index l.hosts);
  rest : each_beside name_is_new (take l.host-index l.hosts) (drop l.host-index l.hosts) ≡ names_differ l.hosts;
}
