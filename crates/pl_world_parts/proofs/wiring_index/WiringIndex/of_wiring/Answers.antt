use Rattle.std.proofs.Common.{subst}
use Rattle.pl_world_parts.specs.WiringIndex.{FindsHostsByMac}
use Rattle.pl_world_parts.proofs.wiring_index.WiringIndex.of_wiring.Goals as goal

pub invariant_of-result : goal.invariant_of-result
invariant_of-result c = record {
  switches = c.in_ok-by_id.ensures;
  hosts = subst (λ hosts. FindsHostsByMac hosts c.in_ok-by_mac.by_mac.entries) c.hosts.ensures.hosts c.in_ok-by_mac.ensures;
}
