use Rattle.std.proofs.Common.{◌≡◌, map}
use Rattle.std.specs.List.{range_with_len, sum_by}
use Rattle.pl_world.specs.QueueOrder.{queue_at}
use Rattle.pl_fabric.specs.Rounds.{waiting}
use Rattle.pl_fabric.proofs.draining.all_waiting.Given as goal

abbrev pub invariant-loop-n : goal.invariant-loop-n
invariant-loop-n g l = l.items ≡ sum_by (waiting l.world) (map (queue_at l.world.plan) (range_with_len 0 l.n))
