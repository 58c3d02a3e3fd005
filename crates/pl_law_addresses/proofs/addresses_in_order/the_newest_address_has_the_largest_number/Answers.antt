use Rattle.pl_law_addresses.proofs.Newest.{newest_is_largest}
use Rattle.pl_law_addresses.proofs.addresses_in_order.the_newest_address_has_the_largest_number.Goals as goal

pub returns : goal.returns
returns c = newest_is_largest
