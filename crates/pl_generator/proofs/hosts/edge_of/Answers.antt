use Rattle.std.proofs.Common.{rules}
use Rattle.pl_generator.proofs.EdgeOrder.{edge_below}
use Rattle.pl_generator.proofs.hosts.edge_of.Goals as goal

pub returns : goal.returns
returns c =
    let below = edge_below c.args.k c.args.host c.requires.arity c.requires.in_range in
    search (rules, below)
