use Rattle.pl_law_epochs.proofs.AtRest.{served_registered}
use Rattle.pl_law_epochs.proofs.world_laws.a_served_host_is_registered_at_rest.Goals as goal

pub returns : goal.returns
returns c = served_registered
