use Rattle.pl_node.proofs.AvoidRows.{words_left}
use Rattle.pl_node.proofs.avoid_row.AvoidRow.without.Goals as goal

pub returns-clause-bits : goal.returns-clause-bits
returns-clause-bits c = words_left c.words_without.result c.args.self.now.words c.args.other.now.words c.words_without.ensures
