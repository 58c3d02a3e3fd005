use Rattle.std.proofs.Common.{◌≡◌, ℕ, ◌<◌, Some, slice_get}
use Rattle.pl_wiring.specs.Peers.{peer_of}
use Rattle.pl_node.specs.SwitchViews.{SwitchView}
use Rattle.pl_fabric.specs.Settled.{IsSettledTowards}
use Rattle.pl_fabric.proofs.switches.are_settled_ports.Given as goal

abbrev pub invariant-loop-port : goal.invariant-loop-port
invariant-loop-port g l =
    (v : SwitchView) → slice_get l.world.switches l.s.0 ≡ Some v → (k : ℕ) → k < l.port →
    IsSettledTowards l.world l.s.0 v k (peer_of l.world.plan l.s.0 k)
