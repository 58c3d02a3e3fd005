-- What other crates may name of these proofs.
pub use Rattle.pl_pcapng.proofs.Walks
