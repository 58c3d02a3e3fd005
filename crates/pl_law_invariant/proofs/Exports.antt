-- What other crates may name of these proofs.
pub use Rattle.pl_law_invariant.proofs.DueInWorlds.{world_due, world_on_plane, world_unheard}
pub use Rattle.pl_law_invariant.proofs.GrantsInRuns.{step_stays_granted}
pub use Rattle.pl_law_invariant.proofs.Grounding.{grounded}
pub use Rattle.pl_law_invariant.proofs.KeepingControl.{holds_in_run, kept_at_first, run_keeps_all}
pub use Rattle.pl_law_invariant.proofs.LawfulRuns.{run_lawful}
pub use Rattle.pl_law_invariant.proofs.TellingPlaces.{can_tell}
