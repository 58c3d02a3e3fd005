use Rattle.std.proofs.Common.{◌≡◌, ◌<◌, ◌+◌, ◌^◌, count_by, length}
use Rattle.pl_queue_array.proofs.counted.count_items.Given as goal

-- what was counted and what is to come is the whole
abbrev pub invariant-loop-item : goal.invariant-loop-item
invariant-loop-item g l =
    record {
      ready : (goal.iterator-loop-item g).can_next l.item-iterator;
      ends : (goal.iterator-loop-item g).is_finite l.item-iterator;
      counted : l.count + count_by g.T.Counted.counts l.item-iterator ≡ count_by g.T.Counted.counts l.fn.items;
      few : l.count + length l.item-iterator < 2 ^ 64;
    }
