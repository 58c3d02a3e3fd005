use Rattle.pl_steps.proofs.Parts.{taken_does}
use Rattle.pl_steps.proofs.taken_laws.a_part_that_tells.Goals as goal

pub returns : goal.returns
returns c = taken_does
