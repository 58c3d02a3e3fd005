use Rattle.std.proofs.Common.{◌∙◌, arith}
use Rattle.pl_queue_array.proofs.QueueArrays.{marks_of_emptied, marks_of_taken}
use Rattle.pl_queue_array.proofs.queues.Queues.take.Goals as goal

pub invariant_of-self : goal.invariant_of-self
invariant_of-self g c =
    c.remove.ensures
    ∙ marks_of_emptied c.self.inside.filled c.self.inside.queues c.take-taken.new.self c.args.at c.self.invariant c.take-taken.result c.take-taken.ensures
    (omega (arith, c.len_at.ensures, c.if-len_at-eq0.true))

pub invariant_of-self-else-len_at-eq0 : goal.invariant_of-self-else-len_at-eq0
invariant_of-self-else-len_at-eq0 g c =
    marks_of_taken c.self.inside.filled c.self.inside.queues c.take-taken.new.self c.args.at c.self.invariant c.take-taken.result c.take-taken.ensures
    (omega (arith, c.len_at.ensures, c.if-len_at-eq0.false))
