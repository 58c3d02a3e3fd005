use Rattle.pl_bridge_rule.proofs.OnePort.{others_stay}
use Rattle.pl_bridge_rule.proofs.rule_laws.other_addresses_stay.Goals as goal

pub returns : goal.returns
returns c = others_stay
