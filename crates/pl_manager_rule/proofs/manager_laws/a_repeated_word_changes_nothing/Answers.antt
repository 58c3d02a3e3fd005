use Rattle.pl_manager_rule.proofs.Repeated.{nothing_changes}
use Rattle.pl_manager_rule.proofs.ToldLast.{told_is_last}
use Rattle.pl_manager_rule.proofs.manager_laws.a_repeated_word_changes_nothing.Goals as goal

pub returns-clause-nothing : goal.returns-clause-nothing
returns-clause-nothing c = nothing_changes

pub returns-clause-last : goal.returns-clause-last
returns-clause-last c = told_is_last
