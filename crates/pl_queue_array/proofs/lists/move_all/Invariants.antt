use Rattle.std.proofs.Common.{◌≡◌, ◌≤◌, ◌+◌, ◌++◌, length, vec_len, vec_capacity}
use Rattle.pl_queue_array.proofs.lists.move_all.Given as goal

-- what was put there and what is left is the whole, and there is room for it
abbrev pub invariant-loop-item : goal.invariant-loop-item
invariant-loop-item g l =
    record {
      whole : l.to.items ++ l.queue ≡ l.fn.to.items ++ l.fn.queue;
      room : vec_len l.to + length l.queue ≤ vec_capacity l.to;
    }

abbrev pub decreases-loop-item : goal.decreases-loop-item
decreases-loop-item g l = length l.queue
