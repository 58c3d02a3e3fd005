use Rattle.std.proofs.Common.{◌≡◌, List, map, take}
use Rattle.pl_topology.specs.declared.entries.LinkEntry.{LinkEntry}
use Rattle.pl_topology.specs.Found.{FindsLinkEntries}
use Rattle.pl_topology.specs.Meaning.{link_of}
use Rattle.pl_topology.proofs.building.tree_links.Given as goal

abbrev pub invariant-loop-link : goal.invariant-loop-link
invariant-loop-link l = (given : List LinkEntry) → FindsLinkEntries l.by_ends given → l.links.items ≡ map (link_of given) (take l.link-index l.link-items)
