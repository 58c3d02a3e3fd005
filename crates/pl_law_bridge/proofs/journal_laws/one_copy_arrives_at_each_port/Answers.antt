use Rattle.pl_law_bridge.specs.Reaching.Target.{Arrival}
use Rattle.pl_law_bridge.proofs.Consequences.{reached_at_most_once}
use Rattle.pl_law_bridge.proofs.journal_laws.one_copy_arrives_at_each_port.Goals as goal

pub returns : goal.returns
returns c = λ w r there is. reached_at_most_once w is.once r (Arrival there)
