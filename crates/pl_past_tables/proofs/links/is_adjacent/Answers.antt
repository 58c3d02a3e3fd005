use Rattle.std.proofs.Common.{◌∙◌}
use Rattle.pl_past_tables.proofs.Failing.{adjacent_by_link}
use Rattle.pl_past_tables.proofs.links.is_adjacent.Goals as goal

pub returns : goal.returns
returns c = c.is_some.ensures ∙ adjacent_by_link c.args.wiring.now c.args.a.0 c.args.b.0 c.link.result c.link.ensures.found c.link.ensures.none
