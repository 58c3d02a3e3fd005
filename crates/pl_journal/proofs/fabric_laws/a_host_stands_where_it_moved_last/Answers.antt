use Rattle.pl_journal.proofs.Hosts.{hosts_apart, known_host, edge_port_of_moved, edge_port_of_others}
use Rattle.pl_journal.proofs.fabric_laws.a_host_stands_where_it_moved_last.Goals as goal

pub returns : goal.returns
returns c = record { moved = edge_port_of_moved; others = edge_port_of_others; known = known_host; apart = hosts_apart }
