use Rattle.pl_bridge_rule.proofs.OnePort.{none_at_one, stays_at_one}
use Rattle.pl_bridge_rule.proofs.rule_laws.an_address_is_at_one_port.Goals as goal

pub returns : goal.returns
returns c = record { boots = λ id k. none_at_one; stays = stays_at_one }
