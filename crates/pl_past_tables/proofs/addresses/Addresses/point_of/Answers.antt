use Rattle.std.proofs.Common.{◌∙◌, sym, ap}
use Rattle.pl_past_tables.proofs.Granted.{edge_port_by_grant, point_in}
use Rattle.pl_past_tables.proofs.addresses.Addresses.point_of.Goals as goal

pub returns-in-None : goal.returns-in-None
returns-in-None c = λ past keeps. ap point_in (c.in-None.ensures past keeps) ∙ sym (edge_port_by_grant past c.args.address)

pub returns-in-Some : goal.returns-in-Some
returns-in-Some c = λ past keeps. ap point_in (c.in-Some.ensures past keeps) ∙ sym (edge_port_by_grant past c.args.address)
