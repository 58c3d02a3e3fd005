use Rattle.std.proofs.Common.{◌≡◌, take}
use Rattle.std.specs.Prelude.{◌&&◌, not}
use Rattle.pl_node.specs.AvoidRows.{is_listed}
use Rattle.pl_node.specs.Hidden.{hidden_at}
use Rattle.pl_node.proofs.AvoidRows.{Avoided}
use Rattle.pl_node.proofs.avoid_bits.shown_entries.Given as goal

abbrev pub invariant-loop-entry : goal.invariant-loop-entry
invariant-loop-entry l = (x : Avoided) → is_listed x l.left ≡ (is_listed x (take l.entry-index l.entries) && not (hidden_at l.fn.hidden x.1 x.2))
