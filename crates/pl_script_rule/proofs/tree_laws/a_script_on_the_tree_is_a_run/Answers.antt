use Rattle.pl_world.specs.Booting.{booted}
use Rattle.pl_law_bridge.specs.TreeWorld.{failures, tree_world}
use Rattle.pl_script_rule.specs.OnTree.{tree_scene}
use Rattle.pl_script_rule.proofs.ScriptRuns.{lines_are_run, run_on}
use Rattle.pl_script_rule.proofs.tree_laws.a_script_on_the_tree_is_a_run.Goals as goal

pub returns : goal.returns
returns g c = λ plan limits records lines end scene can allow plays.
    run_on g.S.SwitchLogic.rule g.M.ManagerLogic.rule g.H.HostLogic.rule (booted plan limits) (tree_world plan limits) scene.world (failures plan)
    (c.the_first_world_is_reached_by_failures.ensures plan limits can allow)
    (lines_are_run g.S.SwitchLogic.rule g.M.ManagerLogic.rule g.H.HostLogic.rule records lines (tree_scene plan limits) end scene plays)
