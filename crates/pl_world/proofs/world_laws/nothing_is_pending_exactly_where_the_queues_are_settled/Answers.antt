use Rattle.pl_world.proofs.SettledQueues.{none_is_pending}
use Rattle.pl_world.proofs.world_laws.nothing_is_pending_exactly_where_the_queues_are_settled.Goals as goal

pub returns : goal.returns
returns c = none_is_pending
