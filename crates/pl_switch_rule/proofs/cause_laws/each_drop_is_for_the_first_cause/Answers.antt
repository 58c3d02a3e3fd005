use Rattle.pl_switch_rule.proofs.CausesOfSteps.{exact_drops_for_first_cause, loose_drops_for_first_cause}
use Rattle.pl_switch_rule.proofs.cause_laws.each_drop_is_for_the_first_cause.Goals as goal

pub returns : goal.returns
returns c = record { exact = exact_drops_for_first_cause; loose = loose_drops_for_first_cause }
