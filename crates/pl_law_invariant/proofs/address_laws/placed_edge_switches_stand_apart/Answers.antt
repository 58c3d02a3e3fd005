use Rattle.pl_law_invariant.proofs.Grounding.{grounded}
use Rattle.pl_law_invariant.proofs.address_laws.placed_edge_switches_stand_apart.Goals as goal

pub returns : goal.returns
returns c = λ w kept. grounded w kept.counted kept.placed kept.voting kept.numbered
