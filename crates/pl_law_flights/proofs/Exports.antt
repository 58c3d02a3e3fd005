-- What other crates may name of these proofs.
pub use Rattle.pl_law_flights.proofs.NoFlightAtFirst.{booted_journaled}
pub use Rattle.pl_law_flights.proofs.Counting.{counts, nobody}
pub use Rattle.pl_law_flights.proofs.EventsKeepFlights.{step_journaled}
pub use Rattle.pl_law_flights.proofs.Hosts.{host_by_mac, host_unicast}
pub use Rattle.pl_law_flights.proofs.KeepingFlights.{kept, same_history}
pub use Rattle.pl_law_flights.proofs.EntriesOfFlights.{note, reverse_noted}
