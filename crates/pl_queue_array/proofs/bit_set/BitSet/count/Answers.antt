use Rattle.std.proofs.Common.{length, ap, ◌∙◌, arith}
use Rattle.pl_queue_array.specs.Tallies.{marked_indices}
use Rattle.pl_queue_array.proofs.TallySums.{few_marked}
use Rattle.pl_queue_array.proofs.bit_set.BitSet.count.Goals as goal

pub returns-clause-within : goal.returns-clause-within
returns-clause-within c =
    let same = c.count.ensures ∙ ap (λ marks. length (marked_indices marks)) (c.self.invariant ∙ c.self.view_is) in
    omega (arith, same, few_marked c.args.self.now)
