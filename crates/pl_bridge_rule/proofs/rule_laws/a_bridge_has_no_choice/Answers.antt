use Rattle.pl_bridge_rule.proofs.Accounts.{no_choice}
use Rattle.pl_bridge_rule.proofs.rule_laws.a_bridge_has_no_choice.Goals as goal

pub returns : goal.returns
returns c = no_choice
