use Rattle.pl_world.specs.Booting.{booted}
use Rattle.pl_law_bridge.specs.TreeWorld.{tree_world}
use Rattle.pl_script_rule.proofs.HostScripts.{does_as_asked_from, failures_ask_nothing}
use Rattle.pl_script_rule.proofs.tree_laws.hosts_on_the_tree_do_what_is_asked.Goals as goal

pub returns : goal.returns
returns g c = λ plan limits records lines scene n host can allow plays found.
    does_as_asked_from g.S.SwitchLogic.rule g.M.ManagerLogic.rule g.H.HostLogic.rule n plan limits records lines (tree_world plan limits) scene host found
    (failures_ask_nothing g.S.SwitchLogic.rule g.M.ManagerLogic.rule g.H.HostLogic.rule n plan.k plan.links (booted plan limits) (tree_world plan limits)
    (c.the_first_world_is_reached_by_failures.ensures plan limits can allow)) plays
