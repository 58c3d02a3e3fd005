use Rattle.pl_journal.proofs.Addresses.{number_of_registered, other_number}
use Rattle.pl_journal.proofs.address_laws.a_registration_gives_a_number.Goals as goal

pub returns : goal.returns
returns c = record { number = number_of_registered; other = other_number }
