-- What other crates may name of these proofs.
pub use Rattle.pl_journal.proofs.Addressees.{just_held, live_one}
pub use Rattle.pl_journal.proofs.Addresses.{granted_apart, live_held, not_held_not_live, not_held_nowhere}
pub use Rattle.pl_journal.proofs.Groups.{unicast_is_not_routed}
pub use Rattle.pl_journal.proofs.Hexadecimal.{encode_append, pair_at}
pub use Rattle.pl_journal.proofs.Hosts.{edge_port_of_moved, edge_port_of_others, hosts_apart, same_edge_port_itself}
pub use Rattle.pl_journal.proofs.Levels.{core_above, edge_of, host_port_is}
pub use Rattle.pl_journal.proofs.Links.{failed_either_way, failed_now}
pub use Rattle.pl_journal.proofs.Numbered.{begun_within, ends_after_it_begins, flying_is_begun, next_is_new, within_begun}
pub use Rattle.pl_journal.proofs.Printed.{all_printed, flat_map-field_texts}
pub use Rattle.pl_journal.proofs.Steps.{past_more}
pub use Rattle.pl_journal.proofs.Unbegun.{flight_made, flight_sent}
