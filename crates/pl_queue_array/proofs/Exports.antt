-- What other crates may name of these proofs.
pub use Rattle.pl_queue_array.proofs.Indices.{next_index_is_least}
pub use Rattle.pl_queue_array.proofs.Ranges.{slice_get_left, slice_get_right}
