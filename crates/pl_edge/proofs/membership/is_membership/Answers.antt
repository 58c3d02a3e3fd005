use Rattle.std.proofs.Common.{◌∙◌}
use Rattle.pl_edge.proofs.membership.is_membership.Goals as goal

pub returns : goal.returns
returns c = c.is_some.ensures ∙ c.read_igmp.ensures.read c.args.frame.now c.view_of-view.ensures
