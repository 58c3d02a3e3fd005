use Rattle.pl_bridge_rule.proofs.Apart.{apart}
use Rattle.pl_bridge_rule.proofs.tree_laws.links_of_the_tree_lead_apart.Goals as goal

pub returns : goal.returns
returns c = apart
