use Rattle.std.proofs.Common.{◌≡◌, map}
use Rattle.pl_output.specs.Mail.{name_of}
use Rattle.pl_output.proofs.Sorted.{Sorted}
use Rattle.pl_output.proofs.saving.receiving.sort.Given as goal

abbrev pub invariant-loop-index : goal.invariant-loop-index
invariant-loop-index l = record {
  names : map name_of l.inboxes.items ≡ map name_of l.fn.inboxes.items;
  sorted : Sorted l.entries l.index l.line l.inboxes.items;
}
