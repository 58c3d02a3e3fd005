use Rattle.pl_bridge_rule.proofs.Paths.{leads_towards}
use Rattle.pl_bridge_rule.proofs.tree_laws.there_is_a_way_to_each_switch.Goals as goal

pub returns : goal.returns
returns c = leads_towards
