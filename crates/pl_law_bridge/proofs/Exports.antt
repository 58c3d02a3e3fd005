-- What other crates may name of these proofs.
pub use Rattle.pl_law_bridge.proofs.Beginning.{between_its_ends, contained}
