-- What other crates may name of these proofs.
pub use Rattle.pl_script_rule.proofs.ScriptRuns.{plays_is_run}
pub use Rattle.pl_script_rule.proofs.Stops.{unless_weaker}
