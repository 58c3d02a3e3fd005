use Rattle.std.proofs.Common.{◌≡◌, take}
use Rattle.std.specs.List.{flat_map}
use Rattle.pl_output.specs.Mail.{record_of}
use Rattle.pl_output.specs.Printed.{IsPrinted}
use Rattle.pl_output.proofs.saving.captures.print_packets.Given as goal

abbrev pub invariant-loop-receipt : goal.invariant-loop-receipt
invariant-loop-receipt g l = record {
  printed : IsPrinted (g.S.Shelf.moment l.fn.shelf).held (g.S.Shelf.moment l.shelf).held l.name l.fn.piece l.piece
      (flat_map (record_of l.journal) (take l.receipt-index l.receipts));
  write_faults : (g.S.Shelf.moment l.shelf).write_faults ≡ (g.S.Shelf.moment l.fn.shelf).write_faults;
  read_faults : (g.S.Shelf.moment l.shelf).read_faults ≡ (g.S.Shelf.moment l.fn.shelf).read_faults;
  capacity : g.S.Shelf.capacity l.shelf ≡ g.S.Shelf.capacity l.fn.shelf;
}
