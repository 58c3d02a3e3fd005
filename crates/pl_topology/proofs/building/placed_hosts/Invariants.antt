use Rattle.std.proofs.Common.{◌≡◌, map}
use Rattle.pl_topology.specs.Meaning.{host_of}
use Rattle.pl_topology.proofs.building.placed_hosts.Given as goal

abbrev pub invariant-loop-entry : goal.invariant-loop-entry
invariant-loop-entry l = l.hosts.items ≡ map host_of l.yielded
