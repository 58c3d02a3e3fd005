use Rattle.pl_journal.proofs.Addresses.{number_granted, number_within, numbers_apart}
use Rattle.pl_journal.proofs.address_laws.registered_addresses_have_numbers_of_their_own.Goals as goal

pub returns : goal.returns
returns c = record { within = number_within; apart = numbers_apart; granted = number_granted }
