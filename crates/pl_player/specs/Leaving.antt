-- What is left of a link where those fail that are none of the tree.
use Rattle.std.specs.Prelude.{ℕ, ◌+◌, if◌then◌else◌}
use Rattle.pl_wiring.specs.declared.link.Link.{Link}
use Rattle.pl_world.specs.LinksAndMoves.{link_failed}
use Rattle.pl_world.specs.Worlds.{WorldView}
use Rattle.pl_inputs.specs.declared.words.Network.{Network}
use Rattle.pl_inputs.specs.declared.words.Network.TheVariants.{Bridges, Fabric}
use Rattle.pl_law_bridge.specs.TreeWorld.{is_off_tree, tree_from}
use Rattle.pl_script_rule.specs.Scenes.{Scene}

-- the link fails, unless it is one of the tree
abbrev pub left_of_link : ℕ → WorldView → Link → WorldView
left_of_link k w link = if is_off_tree k link then link_failed (record w { steps = w.steps + 1 }) link else w

-- what is left of a network before its first line: on bridges the links that are none of the tree have failed
abbrev pub left_on : Network → Scene → Scene
left_on Fabric scene = scene
left_on Bridges scene = record scene { world = tree_from scene.world.plan.k scene.world scene.world.plan.links }
