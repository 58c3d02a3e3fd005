use Rattle.pl_steps.proofs.Parts.{taken_then}
use Rattle.pl_steps.proofs.taken_laws.a_part_and_then_the_next.Goals as goal

pub returns : goal.returns
returns c = λ s next v w o p q. taken_then s next v w o p q
