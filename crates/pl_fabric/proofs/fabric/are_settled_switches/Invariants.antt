use Rattle.std.proofs.Common.{◌≡◌, ℕ, ◌<◌, Some, slice_get}
use Rattle.pl_node.specs.SwitchViews.{SwitchView}
use Rattle.pl_fabric.specs.Settled.{IsSettledSwitch}
use Rattle.pl_fabric.proofs.fabric.are_settled_switches.Given as goal

abbrev pub invariant-loop-s : goal.invariant-loop-s
invariant-loop-s g l =
    (k : ℕ) (v : SwitchView) → k < l.s → slice_get l.world.switches k ≡ Some v → IsSettledSwitch l.world k v
