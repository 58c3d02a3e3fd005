use Rattle.pl_law_runs.proofs.ExactRules.{exact_leaves_no_choice, host_rule_leaves_no_choice, whole_rule_leaves_no_choice}
use Rattle.pl_law_runs.proofs.determined_runs.the_rules_of_the_fabric_leave_no_choice.Goals as goal

pub returns-clause-switches : goal.returns-clause-switches
returns-clause-switches c = exact_leaves_no_choice

pub returns-clause-manager : goal.returns-clause-manager
returns-clause-manager c = whole_rule_leaves_no_choice

pub returns-clause-hosts : goal.returns-clause-hosts
returns-clause-hosts c = host_rule_leaves_no_choice
