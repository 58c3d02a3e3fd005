use Rattle.pl_bridge_rule.specs.BridgeRule.{Bridges}
use Rattle.pl_world.proofs.Exports.{run_looser}
use Rattle.pl_law_bridge.specs.TreeWorld.{tree_world}
use Rattle.pl_script_rule.specs.OnTree.{tree_scene}
use Rattle.pl_script_rule.proofs.TreeRuns.{keeping_run}
use Rattle.pl_script_rule.proofs.tree_laws.a_script_on_the_tree_keeps_to_it.Goals as goal

pub returns : goal.returns
returns g c = λ plan limits records lines end scene can may plays.
    let run = keeping_run g.S.SwitchLogic.rule g.M.ManagerLogic.rule g.H.HostLogic.rule records lines may (tree_scene plan limits) end scene plays in
    c.each_run_keeps_to_the_tree.ensures (tree_world plan limits) run.0 scene.world run.1
    (run_looser g.S.SwitchLogic.rule Bridges g.M.ManagerLogic.rule g.H.HostLogic.rule g.met.S.LearningBridge.bridges (tree_world plan limits) run.0 scene.world run.2)
    (c.the_first_world_keeps_to_the_tree.ensures plan limits can)
