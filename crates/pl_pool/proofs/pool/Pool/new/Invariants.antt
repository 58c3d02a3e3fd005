use Rattle.std.proofs.Common.{◌≡◌, ◌≤◌, replicate, vec_capacity}
use Rattle.pl_pool.specs.Chains.{no_ends}
use Rattle.pl_pool.proofs.pool.Pool.new.Given as goal

abbrev pub invariant-loop : goal.invariant-loop
invariant-loop g l =
    record {
      made : l.ends.items ≡ replicate l.counter no_ends;
      room : l.lists ≤ vec_capacity l.ends;
    }
