-- What other crates may name of these proofs.
pub use Rattle.pl_edge.proofs.Delivered.{on_ok}
