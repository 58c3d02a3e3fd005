use Rattle.pl_law_bridge.specs.Reaching.Target.{Crossing}
use Rattle.pl_law_bridge.proofs.Consequences.{crossed_at_most_once, reached_at_most_once}
use Rattle.pl_law_bridge.proofs.journal_laws.no_switch_is_crossed_twice.Goals as goal

pub returns : goal.returns
returns c = record {
  crossings = λ w r x is. reached_at_most_once w is.once r (Crossing x);
  lines = λ w id x is. crossed_at_most_once w is.once id x;
}
