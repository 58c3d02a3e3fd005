use Rattle.std.proofs.Common.{◌≡◌, ℕ, List, length, map}
use Rattle.std.specs.Vec.Iter.{into_iter_items, into_iter_len}
use Rattle.pl_shelf.specs.Held.{Held}
use Rattle.pl_output.specs.InTurn.{BreaksInTurn, SavedInTurn}
use Rattle.pl_output.specs.Receipts.{capture_in}
use Rattle.pl_output.specs.Room.{HaveRoomInTurn}
use Rattle.pl_output.proofs.saving.captures.save_captures.Given as goal

abbrev pub invariant-loop-inbox : goal.invariant-loop-inbox
invariant-loop-inbox g l = record {
  saved : (new : List ℕ → Held) →
      SavedInTurn (g.S.Shelf.moment l.shelf).held (map (capture_in l.journal) (into_iter_items l.inbox-iterator)) new →
      SavedInTurn (g.S.Shelf.moment l.fn.shelf).held (map (capture_in l.journal) (into_iter_items l.initial.inbox-iterator)) new;
  broken : (name : List ℕ) (new : List ℕ → Held) →
      BreaksInTurn (g.S.Shelf.moment l.shelf).held (map (capture_in l.journal) (into_iter_items l.inbox-iterator)) name new →
      BreaksInTurn (g.S.Shelf.moment l.fn.shelf).held (map (capture_in l.journal) (into_iter_items l.initial.inbox-iterator)) name new;
  write_faults : (g.S.Shelf.moment l.shelf).write_faults ≡ (g.S.Shelf.moment l.fn.shelf).write_faults;
  read_faults : (g.S.Shelf.moment l.shelf).read_faults ≡ (g.S.Shelf.moment l.fn.shelf).read_faults;
  capacity : g.S.Shelf.capacity l.shelf ≡ g.S.Shelf.capacity l.fn.shelf;
  room : HaveRoomInTurn (g.S.Shelf.capacity l.fn.shelf) (g.S.Shelf.moment l.fn.shelf).held (map (capture_in l.journal) (into_iter_items l.initial.inbox-iterator)) →
      HaveRoomInTurn (g.S.Shelf.capacity l.fn.shelf) (g.S.Shelf.moment l.shelf).held (map (capture_in l.journal) (into_iter_items l.inbox-iterator));
  long : into_iter_len l.inbox-iterator ≡ length (into_iter_items l.inbox-iterator);
}
