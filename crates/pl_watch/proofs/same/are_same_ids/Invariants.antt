use Rattle.std.proofs.Common.{◌≡◌, drop}
use Rattle.pl_watch.specs.News.{same_ids}
use Rattle.pl_watch.proofs.same.are_same_ids.Given as goal

abbrev pub invariant-loop-n : goal.invariant-loop-n
invariant-loop-n l = same_ids l.a l.b ≡ same_ids (drop l.n l.a) (drop l.n l.b)
