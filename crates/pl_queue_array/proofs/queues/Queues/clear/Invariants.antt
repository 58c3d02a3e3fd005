use Rattle.std.proofs.Common.{◌≡◌, length}
use Rattle.pl_queue_array.proofs.Clearing.{AreEmptied}
use Rattle.pl_queue_array.proofs.queues.Queues.clear.Given as goal

-- those before this one are empty
abbrev pub invariant-loop-at : goal.invariant-loop-at
invariant-loop-at g l = record { done : AreEmptied l.self l.at; many : length l.self ≡ length l.fn.self }
