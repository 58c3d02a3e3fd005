use Rattle.pl_steps.proofs.Parts.{taken_by_switch}
use Rattle.pl_steps.proofs.taken_laws.what_a_part_takes_the_switch_takes.Goals as goal

pub returns : goal.returns
returns g c = taken_by_switch
