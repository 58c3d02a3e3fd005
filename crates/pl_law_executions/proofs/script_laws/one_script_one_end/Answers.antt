use Rattle.pl_host_rule.specs.HostRule.{host_rule}
use Rattle.pl_manager_rule.specs.WholeRule.{whole_rule}
use Rattle.pl_switch_rule.specs.SwitchRule.{Exact}
use Rattle.pl_law_runs.proofs.Exports.{exact_leaves_no_choice, host_rule_leaves_no_choice, whole_rule_leaves_no_choice}
use Rattle.pl_law_executions.proofs.OneEnd.{plays_one_way}
use Rattle.pl_law_executions.proofs.script_laws.one_script_one_end.Goals as goal

pub returns : goal.returns
returns c = plays_one_way Exact whole_rule host_rule exact_leaves_no_choice whole_rule_leaves_no_choice host_rule_leaves_no_choice
