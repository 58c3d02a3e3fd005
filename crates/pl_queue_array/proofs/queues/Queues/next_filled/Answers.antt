use Rattle.std.proofs.Common.{◌∙◌, ap}
use Rattle.pl_queues.specs.Queues.{next_filled}
use Rattle.pl_queue_array.proofs.QueueArrays.{next_mark_is_next_filled, next_filled_is_there}
use Rattle.pl_queue_array.proofs.queues.Queues.next_filled.Goals as goal

pub returns : goal.returns
returns g c =
    let next =
    c.next.ensures ∙ next_mark_is_next_filled c.self.inside.filled c.self.inside.queues c.args.from c.self.invariant
    ∙ ap (λ queues. next_filled queues c.args.from) c.self.view_is in
    record { next = next; there = next_filled_is_there c.args.self.now c.args.from c.next.result next }
