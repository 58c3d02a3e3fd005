-- What other crates may name of these proofs.
pub use Rattle.pl_gathering.proofs.Acting.{does_nothing_yet, grows_by_one, it_gathers}
pub use Rattle.pl_gathering.proofs.Ending.{IsGoneThrough, last_end}
pub use Rattle.pl_gathering.proofs.Going.{kept_both}
pub use Rattle.pl_gathering.proofs.Hearing.{begin_first, due_whole, end_due}
pub use Rattle.pl_gathering.proofs.Phases.{everyone, hearing_orderly, orderly_anew, whole_at_rest}
pub use Rattle.pl_gathering.proofs.Resting.{hearing_coming}
pub use Rattle.pl_gathering.proofs.Waiting.{IsUnchanged, nothing_treated, whole_later}
