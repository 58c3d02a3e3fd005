use Rattle.pl_journal.proofs.Addresses.{holder_stays, live_stays, number_rises, edge_port_stays}
use Rattle.pl_journal.proofs.address_laws.a_live_address_stays_with_its_host.Goals as goal

pub returns : goal.returns
returns c = record { live = live_stays; holder = holder_stays; edge_port = edge_port_stays; number = number_rises }
