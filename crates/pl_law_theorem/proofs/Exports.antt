-- What other crates may name of these proofs.
pub use Rattle.pl_law_theorem.proofs.FabricsCanBegin.{can_begin}
