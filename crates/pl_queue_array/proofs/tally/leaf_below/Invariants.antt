use Rattle.std.proofs.Common.{◌≡◌, ℕ, ◌+◌, slice_get}
use Rattle.std.specs.List.{filter, range_with_len}
use Rattle.pl_queue_array.specs.Tallies.{is_counted}
use Rattle.pl_queue_array.proofs.TallySums.{LeadsTo}
use Rattle.pl_queue_array.proofs.tally.leaf_below.Given as goal

abbrev pub invariant-loop : goal.invariant-loop
invariant-loop l =
    (ahead : ℕ) → ahead + l.counter ≡ l.levels
    → LeadsTo l.width l.tree (slice_get (filter (is_counted l.width l.tree) (range_with_len 0 l.width)) l.i) ahead l.node l.left
