use Rattle.pl_wiring.proofs.Linked.{same_between}
use Rattle.pl_wiring.proofs.link_laws.two_switches_have_one_link.Goals as goal

pub returns : goal.returns
returns c = same_between
