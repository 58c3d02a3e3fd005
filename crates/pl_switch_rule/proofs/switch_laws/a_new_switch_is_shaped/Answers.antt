use Rattle.pl_node.proofs.Exports.{booted_is_shaped}
use Rattle.pl_switch_rule.proofs.switch_laws.a_new_switch_is_shaped.Goals as goal

pub returns : goal.returns
returns c = booted_is_shaped
