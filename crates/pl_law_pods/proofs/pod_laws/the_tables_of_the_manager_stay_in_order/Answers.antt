use Rattle.pl_manager_rule.proofs.Exports.{boots_in_order, stays_in_order}
use Rattle.pl_law_pods.proofs.pod_laws.the_tables_of_the_manager_stay_in_order.Goals as goal

pub returns-clause-first : goal.returns-clause-first
returns-clause-first c = boots_in_order

pub returns-clause-words : goal.returns-clause-words
returns-clause-words c = stays_in_order
