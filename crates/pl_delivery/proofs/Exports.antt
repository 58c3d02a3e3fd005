-- What other crates may name of these proofs.
pub use Rattle.pl_delivery.proofs.Rest.{invalidated, sender_told}
