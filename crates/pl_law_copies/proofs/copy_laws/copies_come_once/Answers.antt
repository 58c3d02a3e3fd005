use Rattle.std.proofs.Common.{reverse, arith}
use Rattle.pl_law_copies.proofs.CopiesInRuns.{came_at_most_once, copies_at_most_came, first_there}
use Rattle.pl_law_copies.proofs.copy_laws.copies_come_once.Goals as goal

pub returns : goal.returns
returns c = record {
  frames = λ w r there come. came_at_most_once w come r there;
  copies = λ w r there come. omega (arith, came_at_most_once w come r there, copies_at_most_came w.plan (reverse w.journal) r there);
  first = λ w s port id frame items come within peer head. first_there w come s port id frame items within peer head;
}
