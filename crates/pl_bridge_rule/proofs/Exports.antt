-- What other crates may name of these proofs.
pub use Rattle.pl_bridge_rule.proofs.Accounts.{accounts}
pub use Rattle.pl_bridge_rule.proofs.Apart.{apart, not_here, within}
pub use Rattle.pl_bridge_rule.proofs.OnePort.{learnt_is_found, none_at_one, stays_at_one}
pub use Rattle.pl_bridge_rule.proofs.Paths.{either_way, joined_leads}
pub use Rattle.pl_bridge_rule.proofs.QuietAnswers.{answers}
