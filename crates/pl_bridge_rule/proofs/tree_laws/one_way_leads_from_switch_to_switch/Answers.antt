use Rattle.pl_bridge_rule.proofs.Paths.{one_way}
use Rattle.pl_bridge_rule.proofs.tree_laws.one_way_leads_from_switch_to_switch.Goals as goal

pub returns : goal.returns
returns c = one_way
