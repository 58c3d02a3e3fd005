use Rattle.pl_law_addresses.proofs.AddressesInRuns.{first_ordered}
use Rattle.pl_law_addresses.proofs.runs_in_order.grants_are_in_order_at_boot.Goals as goal

pub returns : goal.returns
returns c = λ plan limits can. first_ordered plan limits can.is_plan
