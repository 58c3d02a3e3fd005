use Rattle.pl_switch_rule.proofs.AccountedSteps.{exact_is_loose}
use Rattle.pl_switch_rule.proofs.switch_laws.exact_steps_are_loose.Goals as goal

pub returns : goal.returns
returns c = exact_is_loose
