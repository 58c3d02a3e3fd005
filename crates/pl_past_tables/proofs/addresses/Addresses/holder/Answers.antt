use Rattle.std.proofs.Common.{◌∙◌, sym, ap}
use Rattle.pl_past_tables.proofs.Granted.{holder_by_grant, host_of}
use Rattle.pl_past_tables.proofs.addresses.Addresses.holder.Goals as goal

pub returns-in-None : goal.returns-in-None
returns-in-None c = λ past keeps. ap host_of (c.in-None.ensures past keeps) ∙ sym (holder_by_grant past c.args.address)

pub returns-in-Some : goal.returns-in-Some
returns-in-Some c = λ past keeps. ap host_of (c.in-Some.ensures past keeps) ∙ sym (holder_by_grant past c.args.address)
