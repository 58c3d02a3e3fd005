-- What other crates may name of these proofs.
pub use Rattle.pl_shelf.proofs.Changed.{Changes-appended, with_end-none}
