use Rattle.std.proofs.Common.{◌<◌, length, take, refl, arith}
use Rattle.std.specs.List.{filter, flat_map}
use Rattle.pl_topology.specs.Checks.{canonical_uses, is_unspoken}
use Rattle.pl_topology.proofs.PortLemmas.{kept-more}
use Rattle.pl_topology.proofs.used_ports.kept_ports.Goals as goal

pub loop-link-preserved : goal.loop-link-preserved
loop-link-preserved c = λ given finds.
    let links = c.deref-link-items.result.now in
    let i = c.loop-link.link-index in
    let within : i < length links = omega arith in
    let more = kept-more given links i _ _ within refl in
    rw more (c.in_ok-keep_ports.ensures given (flat_map canonical_uses (filter (is_unspoken given) (take i links))) finds (c.loop-link.invariant given finds))
