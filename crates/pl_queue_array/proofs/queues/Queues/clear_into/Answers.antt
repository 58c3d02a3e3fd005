use Rattle.std.proofs.Common.{[], false, map, refl, sym, ap, ◌∙◌}
use Rattle.pl_queues.specs.Queues.{has_items}
use Rattle.pl_queue_array.proofs.QueueArrays.{marks-changed}
use Rattle.pl_queue_array.proofs.queues.Queues.clear_into.Goals as goal

pub invariant_of-self-2 : goal.invariant_of-self-2
invariant_of-self-2 g c =
    c.remove.ensures ∙ marks-changed c.self.inside.filled c.self.inside.queues c.args.at [] false c.self.invariant refl
    ∙ ap (map has_items) (sym c.in_ok-clear_into.ensures.left)
