-- What other crates may name of these proofs.
pub use Rattle.pl_past.proofs.Frames.{others_stay, when_it_arrives, when_it_crosses, when_it_is_copied, when_it_is_dropped, when_it_is_made, when_it_is_redirected, when_it_is_sent, when_it_is_taken, when_its_edge_grants}
pub use Rattle.pl_past.proofs.LegLemmas.{goes_well_by_kept}
pub use Rattle.pl_past.proofs.LiveLinks.{failed_by_number}
pub use Rattle.pl_past.proofs.MovesByNumbers.{edge_by_tables, moved_by_numbers}
pub use Rattle.pl_past.proofs.HoldersByNumbers.{held_by_numbers}
