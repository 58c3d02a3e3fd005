-- What other crates may name of these proofs.
pub use Rattle.pl_lists.proofs.Insertion.{found_inserts_nothing, missed_inserts}
pub use Rattle.pl_lists.proofs.PortBits.{has_port_is}
