use Rattle.std.proofs.Common.{◌+◌, ◌-◌, ◌≡◌, ◌≤◌, vec_len, take}
use Rattle.pl_shelf.specs.Held.{Same}
use Rattle.pl_shelf.proofs.Fronts.{IsFront}
use Rattle.pl_shelf.proofs.reading.load.Given as goal

abbrev pub invariant-loop-filled : goal.invariant-loop-filled
invariant-loop-filled g l = record {
  filled : l.filled ≤ vec_len l.bytes;
  within : vec_len l.bytes ≤ l.limit + 1;
  front : IsFront ((g.S.Shelf.moment l.fn.shelf).held l.name) (take l.filled l.bytes.items);
  same : Same (g.S.Shelf.moment l.fn.shelf).held (g.S.Shelf.moment l.shelf).held;
  read_faults : (g.S.Shelf.moment l.shelf).read_faults ≡ (g.S.Shelf.moment l.fn.shelf).read_faults;
  write_faults : (g.S.Shelf.moment l.shelf).write_faults ≡ (g.S.Shelf.moment l.fn.shelf).write_faults;
  capacity : g.S.Shelf.capacity l.shelf ≡ g.S.Shelf.capacity l.fn.shelf;
}

abbrev pub decreases-loop-filled : goal.decreases-loop-filled
decreases-loop-filled g l = l.limit + 1 - l.filled
