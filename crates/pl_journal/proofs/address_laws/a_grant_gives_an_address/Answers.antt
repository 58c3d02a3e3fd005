use Rattle.pl_journal.proofs.Addresses.{held_at_a_edge_port, holder_of_granted, other_holder, other_edge_port, edge_port_of_granted}
use Rattle.pl_journal.proofs.address_laws.a_grant_gives_an_address.Goals as goal

pub returns : goal.returns
returns c = record { holder = holder_of_granted; edge_port = edge_port_of_granted; other_holder = other_holder; other_edge_port = other_edge_port; both = held_at_a_edge_port }
