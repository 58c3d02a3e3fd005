use Rattle.std.proofs.Common.{◌≡◌}
use Rattle.pl_inputs.specs.Loaded.{files_of}
use Rattle.pl_inputs.proofs.Gathering.{Gathers}
use Rattle.pl_inputs.proofs.loading.captures.load_captures.Given as goal

abbrev pub invariant-loop-n : goal.invariant-loop-n
invariant-loop-n g l = let S = g.S.Shelf in record {
  gathers : Gathers (S.moment l.fn.shelf).held (S.moment l.shelf).held l.folder l.host-items l.n (files_of l.captures.items) l.left;
  reads : (S.moment l.shelf).read_faults ≡ (S.moment l.fn.shelf).read_faults;
  writes : (S.moment l.shelf).write_faults ≡ (S.moment l.fn.shelf).write_faults;
  capacity : S.capacity l.shelf ≡ S.capacity l.fn.shelf;
}
