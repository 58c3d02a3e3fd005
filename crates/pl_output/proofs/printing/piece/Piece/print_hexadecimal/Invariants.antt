use Rattle.std.proofs.Common.{◌≡◌, length}
use Rattle.pl_output.proofs.HexPrinting.{IsPrintedUpTo}
use Rattle.pl_output.proofs.printing.piece.Piece.print_hexadecimal.Given as goal

abbrev pub invariant-loop-rest : goal.invariant-loop-rest
invariant-loop-rest g l = record {
  printed : IsPrintedUpTo (g.S.Shelf.moment l.fn.shelf).held (g.S.Shelf.moment l.shelf).held l.name l.fn.self l.self l.bytes l.rest;
  write_faults : (g.S.Shelf.moment l.shelf).write_faults ≡ (g.S.Shelf.moment l.fn.shelf).write_faults;
  read_faults : (g.S.Shelf.moment l.shelf).read_faults ≡ (g.S.Shelf.moment l.fn.shelf).read_faults;
  capacity : g.S.Shelf.capacity l.shelf ≡ g.S.Shelf.capacity l.fn.shelf;
}

abbrev pub decreases-loop-rest : goal.decreases-loop-rest
decreases-loop-rest g l = length l.rest
