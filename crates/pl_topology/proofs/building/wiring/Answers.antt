use Rattle.pl_topology.proofs.BuildingLemmas.{PortsFit-found}
use Rattle.pl_topology.proofs.building.wiring.Goals as goal

pub tree_links-requires-clause-ports : goal.tree_links-requires-clause-ports
tree_links-requires-clause-ports c = PortsFit-found c.args.k c.args.entries.links.by_ends c.args.entries.links.entries.items c.requires.found.links c.requires.links
