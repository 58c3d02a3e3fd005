use Rattle.std.proofs.Common.{◌∙◌}
use Rattle.pl_past_tables.proofs.Moving.{number_moved, number_none}
use Rattle.pl_past_tables.proofs.hosts.Hosts.moved_at.Goals as goal

pub returns-in-Some : goal.returns-in-Some
returns-in-Some c = λ past keeps. number_moved c.args.wiring.now past c.args.host.0 c.in-Some.moved (c.in-Some.ensures ∙ keeps.moves c.args.host)

pub returns-in-None : goal.returns-in-None
returns-in-None c = λ past keeps. number_none c.args.wiring.now past c.args.host.0 (c.in-None.ensures ∙ keeps.moves c.args.host)
