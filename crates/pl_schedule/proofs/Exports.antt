-- What other crates may name of these proofs.
pub use Rattle.pl_schedule.proofs.QueueLists.{length_of_order, member_of_order}
