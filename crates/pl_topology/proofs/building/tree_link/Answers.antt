use Rattle.std.proofs.Common.{sym, ◌∙◌}
use Rattle.pl_topology.proofs.building.tree_link.Goals as goal

pub at_ports-requires : goal.at_ports-requires
at_ports-requires c =
    let is = sym c.entry_between.ensures.has ∙ c.in-Some.is in
    (rw is at (c.requires c.args.link.now.lower c.args.link.now.upper))
