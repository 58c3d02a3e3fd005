use Rattle.std.proofs.Common.{◌∙◌, ap, slice_index}
use Rattle.pl_output.specs.Summary.{index_of}
use Rattle.pl_output.proofs.Counting.{index_within}
use Rattle.pl_output.proofs.summary.tally.Tally.ended_for.Goals as goal

pub returns : goal.returns
returns c = λ hosts journal tallied.
    c.count_in.ensures
    ∙ ap (λ counts. slice_index counts c.index_of.result) c.as_slice.ensures.value
    ∙ ap (slice_index c.args.self.now.ended.items) c.index_of.ensures
    ∙ tallied.ended.exact (index_of c.args.cause) (index_within c.args.cause)
