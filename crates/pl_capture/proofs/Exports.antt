-- What other crates may name of these proofs.
pub use Rattle.pl_capture.proofs.Reading
