use Rattle.std.proofs.Common.{refl, sym, ◌∙◌}
use Rattle.pl_bridge_rule.specs.BridgeRule.{Bridges}
use Rattle.pl_bridge_rule.specs.QuietManager.{IsQuiet}
use Rattle.pl_host_rule.specs.HostRule.{host_rule}
use Rattle.pl_law_runs.proofs.Exports.{host_rule_leaves_no_choice}
use Rattle.pl_law_runs.specs.NoChoice.{LeavesManagerNoChoice}
use Rattle.pl_script_rule.specs.OnTree.{tree_scene}
use Rattle.pl_law_executions.proofs.OneEnd.{lines_once}
use Rattle.pl_law_executions.proofs.script_laws.one_script_one_end_of_bridges.Goals as goal

quiet : LeavesManagerNoChoice IsQuiet
quiet = λ old switch told one other acts more a b. (a.same ∙ sym b.same, a.none ∙ sym b.none)

pub returns : goal.returns
returns c = λ plan limits records lines end other scene another a b.
    lines_once Bridges IsQuiet host_rule c.a_bridge_has_no_choice.ensures quiet host_rule_leaves_no_choice records lines (tree_scene plan limits) end other scene another a b
