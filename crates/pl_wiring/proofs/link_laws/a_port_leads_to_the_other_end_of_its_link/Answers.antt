use Rattle.pl_wiring.proofs.Linked.{peer_is_none, peer_is_switch}
use Rattle.pl_wiring.proofs.link_laws.a_port_leads_to_the_other_end_of_its_link.Goals as goal

pub returns : goal.returns
returns c = record { switch = peer_is_switch; none = peer_is_none }
