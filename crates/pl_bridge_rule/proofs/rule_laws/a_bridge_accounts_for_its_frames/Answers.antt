use Rattle.pl_bridge_rule.proofs.Accounts.{accounts}
use Rattle.pl_bridge_rule.proofs.rule_laws.a_bridge_accounts_for_its_frames.Goals as goal

pub returns : goal.returns
returns c = accounts
