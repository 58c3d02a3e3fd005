use Rattle.pl_manager_rule.proofs.Kept.{boots_in_order, reached_in_order, stays_in_order}
use Rattle.pl_manager_rule.proofs.manager_laws.what_is_known_stays_in_order.Goals as goal

pub returns-clause-boots : goal.returns-clause-boots
returns-clause-boots c = boots_in_order

pub returns-clause-stays : goal.returns-clause-stays
returns-clause-stays c = stays_in_order

pub returns-clause-reached : goal.returns-clause-reached
returns-clause-reached c = reached_in_order
