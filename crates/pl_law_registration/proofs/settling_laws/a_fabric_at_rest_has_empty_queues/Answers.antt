use Rattle.pl_law_registration.proofs.Empty.{all_empty}
use Rattle.pl_law_registration.proofs.settling_laws.a_fabric_at_rest_has_empty_queues.Goals as goal

pub returns : goal.returns
returns c = λ w rest name there. all_empty w rest.empty name there
