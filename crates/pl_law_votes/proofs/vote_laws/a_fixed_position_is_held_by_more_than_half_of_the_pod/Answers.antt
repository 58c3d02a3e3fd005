use Rattle.pl_law_votes.proofs.Differing.{fixed_are_held}
use Rattle.pl_law_votes.proofs.vote_laws.a_fixed_position_is_held_by_more_than_half_of_the_pod.Goals as goal

pub returns : goal.returns
returns c = λ plane is votes. fixed_are_held plane.plan plane.view plane.says is votes
