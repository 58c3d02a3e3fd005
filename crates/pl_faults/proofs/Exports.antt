-- What other crates may name of these proofs.
pub use Rattle.pl_faults.proofs.Anew.{avoid_of}
pub use Rattle.pl_faults.proofs.Filling.{among_put_in}
