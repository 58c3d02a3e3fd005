use Rattle.std.proofs.Common.{sym}
use Rattle.pl_world_parts.proofs.LinkFound.{found_between, none_between}
use Rattle.pl_world_parts.proofs.links.link_of.Goals as goal

pub returns-in-None-clause-is : goal.returns-in-None-clause-is
returns-in-None-clause-is c = sym (none_between c.args.wiring.now.links c.args.a.0 c.args.b.0 c.in-None.ensures.none)

pub returns-in-Some-clause-is : goal.returns-in-Some-clause-is
returns-in-Some-clause-is c =
    sym (found_between c.args.wiring.now.k c.args.wiring.now.links c.args.a.0 c.args.b.0 c.in-Some.link c.link.ensures.plan.tree c.in-Some.ensures.found.0
    c.in-Some.ensures.found.1)
