-- A script that is played on the tree which is left for learning bridges.
use Rattle.std.specs.Prelude.{ℕ, List, Option, length, replicate}
use Rattle.pl_wiring.specs.Plan.{Plan}
use Rattle.pl_script.specs.declared.script.ScriptLine.{ScriptLine}
use Rattle.pl_inputs.specs.declared.words.Network.{Network}
use Rattle.pl_inputs.specs.declared.words.Network.TheVariants.{Bridges, Fabric}
use Rattle.pl_inputs.specs.Records.{Recorded}
use Rattle.pl_node.specs.HostInputs.{HostRule}
use Rattle.pl_node.specs.ManagerDuties.{ManagerRule}
use Rattle.pl_node.specs.SwitchInputs.{SwitchRule}
use Rattle.pl_world.specs.declared.limits.Limits.{Limits}
use Rattle.pl_law_bridge.specs.TreeWorld.{tree_world}
use Rattle.pl_script_rule.specs.declared.stop.Stop.{Stop}
use Rattle.pl_script_rule.specs.Lines.{DoesLines}
use Rattle.pl_script_rule.specs.Scenes.{Scene, first_scene}

-- No line was done yet; the links that are none of the tree have failed.
abbrev pub tree_scene : Plan → Limits → Scene
tree_scene plan limits = record { world = tree_world plan limits; asked = replicate (length plan.hosts) 0 }

-- the scene before the first line
abbrev pub scene_on : Network → Plan → Limits → Scene
scene_on Fabric plan limits = first_scene plan limits
scene_on Bridges plan limits = tree_scene plan limits

-- A script is played on a network from its beginning on.
abbrev pub PlaysOn : Network → SwitchRule → ManagerRule → HostRule → Plan → Limits → List (List Recorded) → List ScriptLine → Option (ℕ × Stop) → Scene → Type 0
PlaysOn network switch manager host plan limits records lines end new =
    DoesLines switch manager host records lines (scene_on network plan limits) end new
