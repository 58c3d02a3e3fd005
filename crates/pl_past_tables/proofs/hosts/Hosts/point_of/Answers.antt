use Rattle.std.proofs.Common.{◌∙◌}
use Rattle.pl_past_tables.proofs.Moving.{point_first, point_moved}
use Rattle.pl_past_tables.proofs.hosts.Hosts.point_of.Goals as goal

pub returns-in-Some : goal.returns-in-Some
returns-in-Some c = λ past keeps. point_moved c.args.wiring.now past c.args.host.0 c.in-Some.moved (c.in-Some.ensures ∙ keeps.moves c.args.host)

pub returns-in-None : goal.returns-in-None
returns-in-None c = λ past keeps. c.first_point.ensures ∙ point_first c.args.wiring.now past c.args.host.0 (c.in-None.ensures ∙ keeps.moves c.args.host)
