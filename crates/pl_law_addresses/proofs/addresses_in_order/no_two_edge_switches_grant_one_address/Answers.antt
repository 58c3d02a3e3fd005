use Rattle.pl_law_addresses.proofs.AddressesInRuns.{granted_once}
use Rattle.pl_law_addresses.proofs.addresses_in_order.no_two_edge_switches_grant_one_address.Goals as goal

pub returns : goal.returns
returns c = λ w apart s t v u x at_s at_t live other. granted_once w.switches apart s t v u x at_s at_t live other
