use Rattle.std.proofs.Common.{◌≡◌, drop, length}
use Rattle.pl_world.specs.Ready.{CanStep}
use Rattle.pl_law_bridge.specs.TreeWorld.{tree_from}
use Rattle.pl_player.proofs.on_tree.leave_tree.Given as goal

abbrev pub invariant-loop-n : goal.invariant-loop-n
invariant-loop-n g l = record {
  orderly : CanStep l.world;
  plan : l.world.plan ≡ l.initial.world.plan;
  many : l.many ≡ length l.initial.world.plan.links;
  left : tree_from l.initial.world.plan.k l.world (drop l.n l.initial.world.plan.links) ≡ tree_from l.initial.world.plan.k l.initial.world l.initial.world.plan.links;
}
