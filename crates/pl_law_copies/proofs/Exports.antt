-- What other crates may name of these proofs.
pub use Rattle.pl_law_copies.proofs.CopiesInRuns.{first_there}
pub use Rattle.pl_law_copies.proofs.Spreading.{above, below, for_hosts, GoesBy, named_down, ways}
pub use Rattle.pl_law_copies.proofs.TreesInRuns.{know_trees, run_once}
