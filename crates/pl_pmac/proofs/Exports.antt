-- What other crates may name of these proofs.
pub use Rattle.pl_pmac.proofs.Inverse.{length-mac_of, pmac_of-mac_of, same_pmac_number}
