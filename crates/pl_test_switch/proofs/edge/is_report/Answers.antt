use Rattle.std.proofs.Common.{◌∙◌}
use Rattle.pl_test_switch.proofs.edge.is_report.Goals as goal

pub returns-in-Ok : goal.returns-in-Ok
returns-in-Ok c = c.is_some.ensures ∙ c.read_igmp.ensures.read c.args.frame.now c.in-Ok.ensures.fields
