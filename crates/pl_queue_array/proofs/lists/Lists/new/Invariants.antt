use Rattle.std.proofs.Common.{◌≡◌, [], replicate}
use Rattle.pl_queue_array.proofs.lists.Lists.new.Given as goal

abbrev pub invariant-loop : goal.invariant-loop
invariant-loop g l = l.lists.items ≡ replicate l.counter []
