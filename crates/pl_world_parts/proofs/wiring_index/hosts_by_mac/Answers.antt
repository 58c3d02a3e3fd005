use Rattle.std.proofs.Common.{refl}
use Rattle.pl_layouts.specs.Equality.{same_mac}
use Rattle.pl_world.specs.Changes.{host_no}
use Rattle.pl_world_parts.proofs.FirstIndices.{finds_next}
use Rattle.pl_world_parts.proofs.wiring_index.hosts_by_mac.Goals as goal

pub loop-n-preserved : goal.loop-n-preserved
loop-n-preserved c =
    finds_next (λ h. h.0) same_mac (λ mac host. same_mac host.mac mac) c.args.hosts.now c.loop-n.by_mac.entries c.add_host.new.by_mac.entries c.loop-n.n
    c.index-hosts-n.result (host_no c.loop-n.n) c.loop-n-test.true refl c.loop-n.invariant
    (λ mac. c.in_ok-add_host.ensures mac)
