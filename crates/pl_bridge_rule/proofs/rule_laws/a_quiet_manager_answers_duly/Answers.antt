use Rattle.pl_bridge_rule.proofs.QuietAnswers.{answers}
use Rattle.pl_bridge_rule.proofs.rule_laws.a_quiet_manager_answers_duly.Goals as goal

pub returns : goal.returns
returns c = answers
