use Rattle.std.proofs.Common.{take}
use Rattle.pl_shelf.specs.MemoryShelf.{held_in}
use Rattle.pl_generator.specs.Generated.{AreHeld, IsNewShelf}
use Rattle.pl_generator.proofs.shelf.hold_captures.Given as goal

abbrev pub invariant-loop-host : goal.invariant-loop-host
invariant-loop-host l = record {
  held : AreHeld (held_in l.fn.shelf.places) (held_in l.shelf.places) (take l.host l.captures);
  untouched : IsNewShelf l.fn.shelf → IsNewShelf l.shelf;
}
