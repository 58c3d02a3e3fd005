use Rattle.pl_law_settled.proofs.Records.{rests}
use Rattle.pl_law_settled.proofs.settled_laws.settled_queues_are_at_rest.Goals as goal

pub returns-clause-queues : goal.returns-clause-queues
returns-clause-queues c = rests

pub returns-clause-settled : goal.returns-clause-settled
returns-clause-settled c = λ w settled. rests w settled.queues
