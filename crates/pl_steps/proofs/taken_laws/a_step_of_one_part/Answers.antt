use Rattle.pl_steps.proofs.Parts.{taken_by_part}
use Rattle.pl_steps.proofs.taken_laws.a_step_of_one_part.Goals as goal

pub returns : goal.returns
returns g c = taken_by_part
