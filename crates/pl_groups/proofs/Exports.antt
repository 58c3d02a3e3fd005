-- What other crates may name of these proofs.
pub use Rattle.pl_groups.proofs.Branches.{no_core_no_part}
pub use Rattle.pl_groups.proofs.Edges.{alive_back, alive_neighbour, any_more}
pub use Rattle.pl_groups.proofs.Rostered.{groups_more}
