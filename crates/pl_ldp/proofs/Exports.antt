-- What other crates may name of these proofs.
pub use Rattle.pl_ldp.proofs.Written.{control_in-control_bytes}
