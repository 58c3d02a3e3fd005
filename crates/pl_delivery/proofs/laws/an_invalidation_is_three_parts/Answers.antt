use Rattle.pl_delivery.proofs.Rest.{invalidated}
use Rattle.pl_delivery.proofs.laws.an_invalidation_is_three_parts.Goals as goal

pub returns : goal.returns
returns c = invalidated
