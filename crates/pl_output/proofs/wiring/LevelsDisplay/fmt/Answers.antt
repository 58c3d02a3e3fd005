use Rattle.pl_output.specs.WiringText.{levels_text}
use Rattle.pl_output.proofs.wiring.LevelsDisplay.fmt.Goals as goal

pub returns-clause-writes : goal.returns-clause-writes
unfolding levels_text
returns-clause-writes g c plain ok =
    rw (c.edges-edge.ensures, c.edges-aggregation.ensures, c.half.ensures, c.half-2.ensures, c.k-k.ensures.k) at c.write.ensures.writes plain ok
