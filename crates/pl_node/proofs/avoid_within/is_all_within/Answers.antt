use Rattle.std.proofs.Common.{◌∙◌, sym}
use Rattle.std.proofs.lemmas.Bool.{false≢true}
use Rattle.pl_node.proofs.avoid_within.is_all_within.Goals as goal

pub returns-else-is_first_within : goal.returns-else-is_first_within
returns-else-is_first_within c = (λ u. absurd (false≢true (sym c.if-is_first_within.false ∙ u)), λ all. c.is_first_within.ensures all)
