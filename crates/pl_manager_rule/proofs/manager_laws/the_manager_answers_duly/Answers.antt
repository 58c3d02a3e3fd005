use Rattle.pl_manager_rule.proofs.HeardSwitches.{manager_answers}
use Rattle.pl_manager_rule.proofs.WholeDuties.{whole_answers}
use Rattle.pl_manager_rule.proofs.manager_laws.the_manager_answers_duly.Goals as goal

pub returns-clause-first : goal.returns-clause-first
returns-clause-first c = manager_answers

pub returns-clause-whole : goal.returns-clause-whole
returns-clause-whole c = whole_answers
