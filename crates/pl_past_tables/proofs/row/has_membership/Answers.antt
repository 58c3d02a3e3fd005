use Rattle.std.proofs.Common.{◌∙◌}
use Rattle.pl_past_tables.proofs.row.has_membership.Goals as goal

pub returns : goal.returns
returns c = c.is_some.ensures ∙ c.read_igmp.ensures.read c.args.bytes.now c.view_of-view.ensures
