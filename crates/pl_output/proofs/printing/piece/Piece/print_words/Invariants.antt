use Rattle.std.proofs.Common.{◌≡◌, ◌++◌, take}
use Rattle.std.specs.List.{flat_map}
use Rattle.pl_journal.specs.Text.{text_after_blank}
use Rattle.pl_output.specs.Printed.{IsPrinted}
use Rattle.pl_output.proofs.printing.piece.Piece.print_words.Given as goal

abbrev pub invariant-loop-field : goal.invariant-loop-field
invariant-loop-field g l = record {
  printed : IsPrinted (g.S.Shelf.moment l.fn.shelf).held (g.S.Shelf.moment l.shelf).held l.name l.fn.self l.self
      (l.words.word.now ++ flat_map text_after_blank (take l.field-index l.words.fields));
  write_faults : (g.S.Shelf.moment l.shelf).write_faults ≡ (g.S.Shelf.moment l.fn.shelf).write_faults;
  read_faults : (g.S.Shelf.moment l.shelf).read_faults ≡ (g.S.Shelf.moment l.fn.shelf).read_faults;
  capacity : g.S.Shelf.capacity l.shelf ≡ g.S.Shelf.capacity l.fn.shelf;
}
