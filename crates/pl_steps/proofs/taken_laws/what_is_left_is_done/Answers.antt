use Rattle.pl_steps.proofs.Parts.{rest_done}
use Rattle.pl_steps.proofs.taken_laws.what_is_left_is_done.Goals as goal

pub returns : goal.returns
returns c = rest_done
