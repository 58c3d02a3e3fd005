use Rattle.std.proofs.Common.{slice_get, ◌∙◌, ap}
use Rattle.pl_queues.specs.Queues.{filled_indices}
use Rattle.pl_queue_array.proofs.QueueArrays.{filled_is_there, marked_are_filled}
use Rattle.pl_queue_array.proofs.queues.Queues.filled_index.Goals as goal

pub returns : goal.returns
returns g c =
    let is =
    c.nth.ensures ∙ ap (λ indices. slice_get indices c.args.i) (marked_are_filled c.self.inside.filled c.self.inside.queues c.self.invariant)
    ∙ ap (λ queues. slice_get (filled_indices queues) c.args.i) c.self.view_is in
    record { number = is; there = filled_is_there c.args.self.now c.args.i c.nth.result is }
