use Rattle.std.proofs.Common.{◌∙◌}
use Rattle.pl_past_tables.proofs.addresses.Addresses.granted_at.Goals as goal

pub returns : goal.returns
returns c = λ past keeps. c.get.ensures ∙ keeps.stays (record { host = c.args.host; point = c.args.point })
