use Rattle.pl_script.proofs.NameLemmas.{host_named-is}
use Rattle.pl_script.proofs.names.host_named.Goals as goal

pub returns : goal.returns
returns c = host_named-is c.args.wiring.now c.args.name.now c.host_named.result c.hosts.ensures.plan c.host_named.ensures.found c.host_named.ensures.none
