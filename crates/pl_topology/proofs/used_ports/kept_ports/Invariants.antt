use Rattle.std.proofs.Common.{List, take}
use Rattle.std.specs.List.{filter, flat_map}
use Rattle.pl_topology.specs.declared.entries.LinkEntry.{LinkEntry}
use Rattle.pl_topology.specs.Checks.{canonical_uses, is_unspoken}
use Rattle.pl_topology.specs.Found.{FindsLinkEntries, SeesPorts}
use Rattle.pl_topology.proofs.used_ports.kept_ports.Given as goal

abbrev pub invariant-loop-link : goal.invariant-loop-link
invariant-loop-link l = (given : List LinkEntry) → FindsLinkEntries l.by_ends given →
    SeesPorts l.used (flat_map canonical_uses (filter (is_unspoken given) (take l.link-index l.link-items)))
