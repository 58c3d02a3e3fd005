use Rattle.pl_law_bridge.proofs.Consequences.{lines_are_ways}
use Rattle.pl_law_bridge.proofs.journal_laws.a_line_of_crossings_is_a_path_of_the_tree.Goals as goal

pub returns : goal.returns
returns c = λ w id is. lines_are_ways w is id
