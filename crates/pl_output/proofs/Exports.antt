-- What other crates may name of these proofs.
pub use Rattle.pl_output.proofs.Names.{no_output}
