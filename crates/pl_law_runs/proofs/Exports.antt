-- What other crates may name of these proofs.
pub use Rattle.pl_law_runs.proofs.Determined.{steps_agree}
pub use Rattle.pl_law_runs.proofs.ExactRules.{exact_leaves_no_choice, host_rule_leaves_no_choice, whole_rule_leaves_no_choice}
pub use Rattle.pl_law_runs.proofs.RestartsCounted.{mark_counts, step_counts}
