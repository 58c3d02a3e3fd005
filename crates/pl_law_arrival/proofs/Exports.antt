-- What other crates may name of these proofs.
pub use Rattle.pl_law_arrival.proofs.Following.{stays_written}
