use Rattle.std.proofs.Common.{◌≡◌, map}
use Rattle.std.specs.List.{range_with_len}
use Rattle.pl_wiring.specs.FatTree.{canonical_link}
use Rattle.pl_topology.proofs.canonical.canonical_links.Given as goal

abbrev pub invariant-loop-number : goal.invariant-loop-number
invariant-loop-number l = l.links.items ≡ map (canonical_link l.k) (range_with_len 0 l.number)
