use Rattle.std.proofs.Common.{map, ap, sym, ◌∙◌}
use Rattle.pl_queues.specs.Queues.{has_items}
use Rattle.pl_queue_array.proofs.QueueArrays.{no_items_at_first}
use Rattle.pl_queue_array.proofs.queues.Queues.new.Goals as goal

pub invariant_of-result : goal.invariant_of-result
invariant_of-result g c = c.in_ok-filled.ensures ∙ no_items_at_first g.row.T.Denot c.args.count ∙ ap (map has_items) (sym c.in_ok-queues.ensures)
