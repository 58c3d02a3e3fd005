use Rattle.pl_law_bridge.proofs.Beginning.{begins_on_tree}
use Rattle.pl_law_bridge.proofs.run_laws.the_first_world_keeps_to_the_tree.Goals as goal

pub returns : goal.returns
returns c = begins_on_tree
