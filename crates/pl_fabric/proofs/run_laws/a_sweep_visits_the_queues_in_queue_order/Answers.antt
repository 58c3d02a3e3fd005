use Rattle.pl_fabric.proofs.QueueOrder.{all_in_order}
use Rattle.pl_fabric.proofs.run_laws.a_sweep_visits_the_queues_in_queue_order.Goals as goal

pub returns : goal.returns
returns c = all_in_order
