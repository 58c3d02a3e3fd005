-- What other crates may name of these proofs.
pub use Rattle.pl_law_placing.proofs.Answering.{answered}
pub use Rattle.pl_law_placing.proofs.AtRest.{few_attempts, world_first, world_pods, world_positions}
pub use Rattle.pl_law_placing.proofs.Levels.{seen_later}
pub use Rattle.pl_law_placing.proofs.PlacingInRuns.{run_places}
pub use Rattle.pl_law_placing.proofs.Seeing.{seen_on, step_seen}
