use Rattle.std.proofs.Common.{◌≡◌, ◌≤◌, ◌<◌, ◌+◌, ◌++◌, [], length, slice_set, vec_len, vec_capacity}
use Rattle.pl_pool.specs.Pool.{items_of, list_at}
use Rattle.pl_pool.proofs.pool.Pool.clear_into.Given as goal

-- what went and what is left is the whole list
abbrev pub invariant-loop-item : goal.invariant-loop-item
invariant-loop-item g l =
    record {
      told : l.to.items ++ items_of (list_at l.self l.list) ≡ l.fn.to.items ++ items_of (list_at l.fn.self l.list);
      left : slice_set l.self.lists l.list [] ≡ slice_set l.fn.self.lists l.list [];
      many : l.self.spare + length (list_at l.self l.list) ≡ l.fn.self.spare + length (list_at l.fn.self l.list);
      within : l.list < length l.self.lists;
      room : vec_len l.to + length (list_at l.self l.list) ≤ vec_capacity l.to;
    }

abbrev pub decreases-loop-item : goal.decreases-loop-item
decreases-loop-item g l = length (list_at l.self l.list)
