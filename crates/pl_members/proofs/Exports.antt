-- What other crates may name of these proofs.
pub use Rattle.pl_members.proofs.Comparing.{equal_numbers, from_equal, from_less}
pub use Rattle.pl_members.proofs.Reaching.{any_inserted}
