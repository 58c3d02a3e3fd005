use Rattle.pl_law_votes.proofs.Differing.{fixed_are_apart}
use Rattle.pl_law_votes.proofs.vote_laws.edge_switches_of_a_pod_have_different_positions.Goals as goal

pub returns : goal.returns
returns c = λ plane is votes. fixed_are_apart plane.plan plane.view plane.says is votes
