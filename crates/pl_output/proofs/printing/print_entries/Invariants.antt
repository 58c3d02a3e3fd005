use Rattle.std.proofs.Common.{◌≡◌, All, take}
use Rattle.pl_journal.specs.Ranges.{Fits}
use Rattle.pl_journal.specs.Text.{journal_text}
use Rattle.pl_output.specs.Printed.{IsPrinted}
use Rattle.pl_output.proofs.printing.print_entries.Given as goal

abbrev pub invariant-loop-entry : goal.invariant-loop-entry
invariant-loop-entry g l = record {
  printed : IsPrinted (g.S.Shelf.moment l.fn.shelf).held (g.S.Shelf.moment l.shelf).held l.name l.fn.piece l.piece (journal_text l.wiring (take l.entry-index l.entries));
  fits : All Fits (take l.entry-index l.entries);
  write_faults : (g.S.Shelf.moment l.shelf).write_faults ≡ (g.S.Shelf.moment l.fn.shelf).write_faults;
  read_faults : (g.S.Shelf.moment l.shelf).read_faults ≡ (g.S.Shelf.moment l.fn.shelf).read_faults;
  capacity : g.S.Shelf.capacity l.shelf ≡ g.S.Shelf.capacity l.fn.shelf;
}
