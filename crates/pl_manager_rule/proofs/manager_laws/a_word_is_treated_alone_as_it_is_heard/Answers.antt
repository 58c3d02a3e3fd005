use Rattle.pl_manager_rule.proofs.Treating.{treated_alone}
use Rattle.pl_manager_rule.proofs.manager_laws.a_word_is_treated_alone_as_it_is_heard.Goals as goal

pub returns : goal.returns
returns c = treated_alone
