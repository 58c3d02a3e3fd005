use Rattle.pl_layouts.proofs.Kept.{in_two_steps}
use Rattle.pl_layouts.proofs.arrival_laws.addresses_are_rewritten_one_after_the_other.Goals as goal

pub returns : goal.returns
returns c = in_two_steps
