use Rattle.pl_steps.proofs.Parts.{rests_taken, taken_rests, taken_then_rests}
use Rattle.pl_steps.proofs.taken_laws.a_part_that_rests.Goals as goal

pub returns : goal.returns
returns c = record { taken = taken_rests; only = rests_taken; behind = taken_then_rests }
