use Rattle.pl_switch_rule.proofs.AccountedSteps.{exact_steps_are_accounted, loose_steps_are_accounted}
use Rattle.pl_switch_rule.proofs.switch_laws.each_step_accounts_for_its_frames.Goals as goal

pub returns : goal.returns
returns c = record { exact = exact_steps_are_accounted; loose = loose_steps_are_accounted }
