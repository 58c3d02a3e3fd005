use Rattle.pl_host_rule.specs.HostRule.{host_rule}
use Rattle.pl_manager_rule.specs.WholeRule.{whole_rule}
use Rattle.pl_switch_rule.specs.SwitchRule.{Exact}
use Rattle.pl_law_runs.proofs.Determined.{steps_agree}
use Rattle.pl_law_runs.proofs.ExactRules.{exact_leaves_no_choice, host_rule_leaves_no_choice, whole_rule_leaves_no_choice}
use Rattle.pl_law_runs.proofs.determined_runs.a_step_is_determined.Goals as goal

pub returns : goal.returns
returns c = steps_agree Exact whole_rule host_rule exact_leaves_no_choice whole_rule_leaves_no_choice host_rule_leaves_no_choice
